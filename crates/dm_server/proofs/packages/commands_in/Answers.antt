use Rattle.std.proofs.Common.{arith}
use Rattle.dm_pack.specs.Entries.{whole_entry}
use Rattle.dm_pack.proofs.Numbers.{few_ids}
use Rattle.dm_server.proofs.Rows.{ready_one}
use Rattle.dm_server.proofs.packages.commands_in.Goals as goal

pub ids_in-requires : goal.ids_in-requires
ids_in-requires c =
    let ready = ready_one c.args.entries.now c.loop-entry.entry-index c.entry-item.result c.requires
    c.loop-entry-test.true c.entry-item.is in
    let few = few_ids (whole_entry c.entry-item.result.command) ready in
    omega (arith, few)
