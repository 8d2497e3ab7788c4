use Rattle.std.proofs.Common.{arith}
use Rattle.dm_pack.specs.Entries.{whole_entry}
use Rattle.dm_pack.proofs.Fit.{short_items}
use Rattle.dm_pack.proofs.Numbers.{few_ids}
use Rattle.dm_pack.proofs.place.Place.with_command.Goals as goal

pub numbered_length-bytes-requires-clause-short : goal.numbered_length-bytes-requires-clause-short
numbered_length-bytes-requires-clause-short c = short_items c.args.command.now c.requires.ready.fit.short_data

pub numbered_length-bytes-requires-clause-room : goal.numbered_length-bytes-requires-clause-room
numbered_length-bytes-requires-clause-room c =
    let few = few_ids (whole_entry c.args.command.now) c.requires.ready in
    let low = c.requires.low in
    omega (arith, few, low)

pub ids_in-requires : goal.ids_in-requires
ids_in-requires c = let few = few_ids (whole_entry c.args.command.now) c.requires.ready in omega (arith, few)

pub overflow_add-next : goal.overflow_add-next
overflow_add-next c =
    let few = few_ids (whole_entry c.args.command.now) c.requires.ready in
    let low = c.requires.low in
    omega (arith, few, low, c.ids_in.ensures)

pub end_length-requires : goal.end_length-requires
end_length-requires c =
    let few = few_ids (whole_entry c.args.command.now) c.requires.ready in
    let low = c.requires.low in
    omega (arith, few, low, c.ids_in.ensures)
