use Rattle.std.proofs.Common.{◌∙◌, sym, ap, arith, drop}
use Rattle.dm_pack.specs.Measures.{cut_at}
use Rattle.dm_pack.proofs.Greatest.{none_next, some_next, hollow_first}
use Rattle.dm_pack.proofs.Taking.{all_rest}
use Rattle.dm_pack.proofs.emptying.push_first.Goals as goal

pub returns-in-None-clause-number : goal.returns-in-None-clause-number
returns-in-None-clause-number c =
    ap (cut_at c.args.taken.place c.args.room)
    (sym (none_next c.args.taken.place c.args.queue.now (sym c.in-None.is ∙ c.requires.hollow)))

pub first-entry-requires : goal.first-entry-requires
first-entry-requires c =
    some_next c.args.taken.place c.in-Some.hollow c.args.queue.now (sym c.in-Some.is ∙ c.requires.hollow)

pub push_part-requires-clause-ready : goal.push_part-requires-clause-ready
push_part-requires-clause-ready c =
    (all_rest c.args.queue.now c.first-entry.result.now (drop 1 c.args.queue.now) c.first-entry.ensures
    c.requires.ready).0

pub push_part-requires-clause-hollow : goal.push_part-requires-clause-hollow
push_part-requires-clause-hollow c =
    hollow_first c.args.taken.place c.in-Some.hollow c.first-entry.result.now (drop 1 c.args.queue.now)
    c.args.queue.now c.first-entry.ensures (sym c.in-Some.is ∙ c.requires.hollow)
