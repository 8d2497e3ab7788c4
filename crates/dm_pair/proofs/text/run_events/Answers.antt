use Rattle.std.proofs.Common.{◌∙◌, ◌+◌, ap, sym, subst, arith, length}
use Rattle.dm_pair.specs.Events.{IsPairEvent}
use Rattle.dm_pair.specs.Texts.{happening, behind_text}
use Rattle.dm_pair.specs.From.{rest_written}
use Rattle.dm_pair.specs.Seen.{seen}
use Rattle.dm_pair.proofs.Writing.{writes_same, writes_rest, event_written}
use Rattle.dm_pair.proofs.text.run_events.Goals as goal

pub returns-in-Err : goal.returns-in-Err
returns-in-Err c =
    writes_same c.halted.result _ _
    (writes_rest c.halted.result (rest_written c.events.number (happening c.args.ids.now (seen c.events.pairing))
    c.events.rest.now) c.in-Err.halt c.events.out c.halted.ensures c.in-Err.ensures.halt)
    (sym c.events.invariant.written)

pub returns-in-None : goal.returns-in-None
returns-in-None c =
    let said = rw c.in-None.is at c.in-Ok.ensures.said in
    writes_same c.end.result _ _ c.end.ensures
    (sym (c.events.invariant.written ∙ ap (behind_text c.events.out) said))

pub answer-requires-clause-event : goal.answer-requires-clause-event
answer-requires-clause-event c =
    subst (λ n. IsPairEvent n (length c.events.pairing.ups) (length c.events.pairing.downs) c.in-Some.event)
    c.events.invariant.accounts (rw c.in-Some.is at c.in-Ok.ensures.range)

pub events-preserved : goal.events-preserved
events-preserved c =
    let said = rw c.in-Some.is at c.in-Ok.ensures.said in
    let before = c.events.invariant.number in
    let fewer = c.in-Ok.ensures.shorter in
    let most = c.events.invariant.few in
    let more = c.in_ok-answer-in-Some.ensures.count in
    record {
      number = omega (arith, before, fewer);
      few = omega (arith, most, more);
      accounts = c.events.invariant.accounts ∙ sym c.in_ok-answer-in-Some.ensures.accounts;
      written = event_written _ _ _ c.events.out c.answer.new.out _ c.events.invariant.written said
          c.in_ok-answer-in-Some.ensures.told
          ∙ ap (λ q. behind_text c.answer.new.out (rest_written (c.events.number + 1) (happening c.args.ids.now q)
          c.in-Ok.next.1.now)) (sym c.in_ok-answer-in-Some.ensures.state);
    }
