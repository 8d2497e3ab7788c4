use Rattle.std.proofs.Common.{rules, length}
use Rattle.std.proofs.lemmas.Iterator.Consumers.{YieldsList-at, YieldsList-turn, YieldsList-end}
use Rattle.std.proofs.lemmas.Iterator.Splits.{YieldsList-from_slice_split}
use Rattle.std.proofs.lemmas.List.{length_push}
use borrow.Author.Tests.{tests}
use Rattle.dm_acl.proofs.Names.{names_more, names_all}
use Rattle.dm_acl.proofs.reading.read_names.Goals as goal

pub loop-name-preserved : goal.loop-name-preserved
loop-name-preserved c =
    let turn =
    YieldsList-turn (YieldsList-at c.into_iter-name-iterator.ensures.into_iter_gives
    (YieldsList-from_slice_split _ _ c.args.list.now c.split-name-items.ensures.rest c.split-name-items.ensures.done
    c.split-name-items.ensures.closure (λ x b q h. search (rules, tests))))
    c.loop-name.yielded c.loop-name.name-iterator c.loop-name.yielded_by c.next.result c.next.new.self c.in-Some.name
    c.in-Some.is c.next.ensures.steps in
    names_more _ (length c.loop-name.yielded) _ _ _ _ _ (length_push c.loop-name.yielded c.in-Some.name) turn
    c.in_ok-add_name.ensures c.loop-name.invariant

pub returns : goal.returns
returns c =
    let end =
    YieldsList-end (YieldsList-at c.into_iter-name-iterator.ensures.into_iter_gives
    (YieldsList-from_slice_split _ _ c.args.list.now c.split-name-items.ensures.rest c.split-name-items.ensures.done
    c.split-name-items.ensures.closure (λ x b q h. search (rules, tests))))
    c.loop-name.yielded c.loop-name.name-iterator c.loop-name.yielded_by c.next.result c.next.new.self c.in-None.is
    c.next.ensures.steps in
    names_all _ (length c.loop-name.yielded) _ _ end.1 c.loop-name.invariant
