use Rattle.std.proofs.Common.{◌+◌, ◌<◌, ◌^◌, ◌∙◌, arith}
use Rattle.dm_pack.specs.Entries.{whole_entry}
use Rattle.dm_pack.proofs.Numbers.{few_ids}
use Rattle.dm_waiting.proofs.waiting_list.WaitingList.push_entry.Goals as goal

pub ids_in-requires : goal.ids_in-requires
ids_in-requires c = let few = few_ids (whole_entry c.args.entry.now.command) c.requires.ready in omega (arith, few)

pub push-requires : goal.push-requires
push-requires c =
    let few = few_ids (whole_entry c.args.entry.now.command) c.requires.ready in
    let same = c.from-count.ensures ∙ c.ids_in.ensures in
    let low : c.args.entry.now.number + c.from-count.result < 2 ^ 64 = grind (arith, c.in-Some.ensures) in
    record { small = record { some = c.requires.some; count = omega (arith, few, same); numbers = low } }
