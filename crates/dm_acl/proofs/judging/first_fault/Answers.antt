use Rattle.std.proofs.Common.{rules, length, refl, subst, sym, arith}
use Rattle.std.proofs.lemmas.Iterator.Consumers.{YieldsList-at, YieldsList-turn, YieldsList-end}
use Rattle.std.proofs.lemmas.Iterator.Splits.{YieldsList-from_slice_split}
use Rattle.std.proofs.lemmas.List.{length_push}
use borrow.Author.Tests.{tests}
use Rattle.dm_acl.specs.Grammar.{no_entries, with_entry}
use Rattle.dm_acl.specs.declared.values.Servers.TheVariants.{Everybody}
use Rattle.dm_acl.proofs.Parts.{room-parts, kept_more, fault_at, room_more, good_all}
use Rattle.dm_acl.proofs.Faults.{AreNamedAlike, named_more, alike_taken, alike_refused}
use Rattle.dm_acl.proofs.judging.first_fault.Goals as goal

pub loop-part-init : goal.loop-part-init
loop-part-init c =
    let e = room-parts c.args.text.now in
    record {
      room = omega (arith, e, c.requires);
      kept = (no_entries, subst (AreNamedAlike no_entries) (sym c.none-named.ensures) (λ r. refl), refl);
    }

pub loop-part-preserved : goal.loop-part-preserved
loop-part-preserved c =
    let turn =
    YieldsList-turn (YieldsList-at c.into_iter-part-iterator.ensures.into_iter_gives
    (YieldsList-from_slice_split _ _ c.args.text.now c.split-part-items.ensures.rest c.split-part-items.ensures.done
    c.split-part-items.ensures.closure (λ x b q h. search (rules, tests))))
    c.loop-part.yielded c.loop-part.part-iterator c.loop-part.yielded_by c.next.result c.next.new.self c.in-Some.part
    c.in-Some.is c.next.ensures.steps in
    let old = c.loop-part.invariant.kept in
    let new = c.put_right.ensures.new c.if-not-put_right.false in
    record {
      room =
          room_more _ (length c.loop-part.yielded) _ _ c.loop-part.at 4097
          (length_push c.loop-part.yielded c.in-Some.part) turn c.loop-part.invariant.room;
      kept = (
        with_entry old.0 new.0,
        subst (AreNamedAlike (with_entry old.0 new.0)) (sym new.3)
            (named_more old.0 c.loop-part.named new.0.right new.0.servers Everybody old.1),
        kept_more _ (length c.loop-part.yielded) _ _ old.0 (with_entry old.0 new.0) c.loop-part.at tt _
            (length_push c.loop-part.yielded c.in-Some.part) turn
            (alike_taken old.0 c.loop-part.named c.loop-part.at c.in-Some.part.now new.0 old.1 new.1 new.2) old.2,
      );
    }

pub returns-then-not-put_right : goal.returns-then-not-put_right
returns-then-not-put_right c =
    let turn =
    YieldsList-turn (YieldsList-at c.into_iter-part-iterator.ensures.into_iter_gives
    (YieldsList-from_slice_split _ _ c.args.text.now c.split-part-items.ensures.rest c.split-part-items.ensures.done
    c.split-part-items.ensures.closure (λ x b q h. search (rules, tests))))
    c.loop-part.yielded c.loop-part.part-iterator c.loop-part.yielded_by c.next.result c.next.new.self c.in-Some.part
    c.in-Some.is c.next.ensures.steps in
    let old = c.loop-part.invariant.kept in
    fault_at _ (length c.loop-part.yielded) _ c.loop-part.at old.0 c.loop-part.at _ turn
    (alike_refused old.0 c.loop-part.named c.loop-part.at c.in-Some.part.now old.1
    (c.put_right.ensures.fault c.if-not-put_right.true)) old.2

pub returns : goal.returns
returns c =
    let end =
    YieldsList-end (YieldsList-at c.into_iter-part-iterator.ensures.into_iter_gives
    (YieldsList-from_slice_split _ _ c.args.text.now c.split-part-items.ensures.rest c.split-part-items.ensures.done
    c.split-part-items.ensures.closure (λ x b q h. search (rules, tests))))
    c.loop-part.yielded c.loop-part.part-iterator c.loop-part.yielded_by c.next.result c.next.new.self c.in-None.is
    c.next.ensures.steps in
    let old = c.loop-part.invariant.kept in
    good_all _ (length c.loop-part.yielded) old.0 c.loop-part.at _ end.1 old.2
