use Rattle.std.proofs.Common.{◌∙◌, ◌+◌, sym, ap, arith, drop}
use Rattle.std.proofs.lemmas.List.{length-drop}
use Rattle.dm_pack.specs.Measures.{cut_at}
use Rattle.dm_pack.proofs.Greatest.{none_next, some_next, hollow_first}
use Rattle.dm_pack.proofs.Taking.{all_rest}
use Rattle.dm_pack.proofs.fitting.push_next.Goals as goal

pub returns-in-None-clause-number : goal.returns-in-None-clause-number
returns-in-None-clause-number c =
    ap (cut_at c.args.taken.place c.args.room)
    (sym (none_next c.args.taken.place (drop c.args.taken.whole c.args.queue.now)
    (sym c.in-None.is ∙ c.requires.hollow)))

pub entry-entry-requires : goal.entry-entry-requires
entry-entry-requires c =
    let some =
    some_next c.args.taken.place c.in-Some.hollow (drop c.args.taken.whole c.args.queue.now)
    (sym c.in-Some.is ∙ c.requires.hollow) in
    let long = length-drop c.args.taken.whole c.args.queue.now in
    omega (arith, some, long)

pub push_part-requires-clause-ready : goal.push_part-requires-clause-ready
push_part-requires-clause-ready c =
    (all_rest (drop c.args.taken.whole c.args.queue.now) c.entry-entry.result.now
    (drop (c.args.taken.whole + 1) c.args.queue.now)
    c.entry-entry.ensures c.requires.ready).0

pub push_part-requires-clause-hollow : goal.push_part-requires-clause-hollow
push_part-requires-clause-hollow c =
    hollow_first c.args.taken.place c.in-Some.hollow c.entry-entry.result.now
    (drop (c.args.taken.whole + 1) c.args.queue.now)
    (drop c.args.taken.whole c.args.queue.now) c.entry-entry.ensures (sym c.in-Some.is ∙ c.requires.hollow)
