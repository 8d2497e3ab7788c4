use Rattle.std.proofs.Common.{rules, length, ap, arith}
use Rattle.std.proofs.lemmas.Iterator.Consumers.{YieldsList-at, YieldsList-turn, YieldsList-end}
use Rattle.std.proofs.lemmas.Iterator.Splits.{YieldsList-from_slice_split}
use Rattle.std.proofs.lemmas.List.{length_push}
use borrow.Author.Tests.{tests}
use Rattle.dm_acl.specs.Reading.{parts_in, after_parts}
use Rattle.dm_acl.proofs.Parts.{room-parts, kept_more, stopped_at, room_more, kept_all}
use Rattle.dm_acl.proofs.reading.read_parts.Goals as goal

pub loop-part-init : goal.loop-part-init
loop-part-init c =
    let e = room-parts c.args.text.now in
    record {
      room = omega (arith, e, c.requires.short);
      kept = ap (λ acl. after_parts acl 0 (parts_in c.args.text.now)) c.none-entries.ensures;
    }

pub loop-part-preserved : goal.loop-part-preserved
loop-part-preserved c =
    let turn =
    YieldsList-turn (YieldsList-at c.into_iter-part-iterator.ensures.into_iter_gives
    (YieldsList-from_slice_split _ _ c.args.text.now c.split-part-items.ensures.rest c.split-part-items.ensures.done
    c.split-part-items.ensures.closure (λ x b q h. search (rules, tests))))
    c.loop-part.yielded c.loop-part.part-iterator c.loop-part.yielded_by c.next.result c.next.new.self c.in-Some.part
    c.in-Some.is c.next.ensures.steps in
    record {
      room =
          room_more _ (length c.loop-part.yielded) _ _ c.loop-part.at 4097
          (length_push c.loop-part.yielded c.in-Some.part) turn c.loop-part.invariant.room;
      kept =
          kept_more _ (length c.loop-part.yielded) _ _ _ _ c.loop-part.at _ _
          (length_push c.loop-part.yielded c.in-Some.part) turn c.in-Ok.ensures c.loop-part.invariant.kept;
    }

pub returns-in-Err : goal.returns-in-Err
returns-in-Err c =
    let turn =
    YieldsList-turn (YieldsList-at c.into_iter-part-iterator.ensures.into_iter_gives
    (YieldsList-from_slice_split _ _ c.args.text.now c.split-part-items.ensures.rest c.split-part-items.ensures.done
    c.split-part-items.ensures.closure (λ x b q h. search (rules, tests))))
    c.loop-part.yielded c.loop-part.part-iterator c.loop-part.yielded_by c.next.result c.next.new.self c.in-Some.part
    c.in-Some.is c.next.ensures.steps in
    stopped_at _ (length c.loop-part.yielded) _ _ _ _ c.loop-part.at _ turn c.in-Err.ensures c.loop-part.invariant.kept
    c.requires.faultless

pub returns : goal.returns
returns c =
    let end =
    YieldsList-end (YieldsList-at c.into_iter-part-iterator.ensures.into_iter_gives
    (YieldsList-from_slice_split _ _ c.args.text.now c.split-part-items.ensures.rest c.split-part-items.ensures.done
    c.split-part-items.ensures.closure (λ x b q h. search (rules, tests))))
    c.loop-part.yielded c.loop-part.part-iterator c.loop-part.yielded_by c.next.result c.next.new.self c.in-None.is
    c.next.ensures.steps in
    kept_all _ (length c.loop-part.yielded) _ c.loop-part.at _ end.1 c.loop-part.invariant.kept
