use Rattle.std.proofs.Common.{◌∙◌, ap}
use Rattle.dm_atomic.specs.Marks.{whole_of}
use Rattle.dm_machine.specs.Events.{act, takes}
use Rattle.dm_machine.specs.Messages.{correlator_of}
use Rattle.dm_machine.specs.History.{next}
use Rattle.dm_session.specs.View.{WholeMachine}
use Rattle.dm_session.proofs.EndedUpdates.{popped, still_client, still_sound, ended_next, ended_sound}
use Rattle.dm_session.proofs.Kept.{not_open, closed_same}
use Rattle.dm_session.proofs.client.Client.end_update.Goals as goal

pub back-requires-clause-held : goal.back-requires-clause-held
back-requires-clause-held c =
    (c.finish_update.ensures.marks.marks c.mark-mark.result
    (whole_of c.self.inside.engine) c.mark-mark.ensures.recalls).held

pub invariant_of-self-in-Err : goal.invariant_of-self-in-Err
invariant_of-self-in-Err c =
    let e = c.self.inside.engine in
    still_sound e c.back.new.self c.self.inside.queue c.self.inside.rest c.pop.new.self
    (c.back.ensures.whole (whole_of e)
    (c.finish_update.ensures.marks.marks c.mark-mark.result (whole_of e) c.mark-mark.ensures.recalls))
    (c.back.ensures.clock ∙ c.finish_update.ensures.clock)
    (popped c.self.inside.rest.results c.push.new.self c.pop.new.self _ c.pop.result c.in_ok-push.ensures.ok
    c.pop.ensures)
    c.self.invariant (c.back.ensures.max_obj ∙ c.finish_update.ensures.max_obj) c.back.ensures.sound
    (c.back.ensures.past ∙ c.finish_update.ensures.marks.pasts c.mark-mark.result c.mark-mark.ensures.recalls.held
    ∙ c.mark-mark.ensures.past)
    (c.back.ensures.parked (c.finish_update.ensures.marks.parked c.self.invariant.none_left))

pub returns-in-Err-clause-err : goal.returns-in-Err-clause-err
returns-in-Err-clause-err c =
    let e = c.self.inside.engine in
    still_client e c.back.new.self c.self.inside.queue c.self.inside.rest c.pop.new.self
    (c.back.ensures.whole (whole_of e)
    (c.finish_update.ensures.marks.marks c.mark-mark.result (whole_of e) c.mark-mark.ensures.recalls))
    (c.back.ensures.clock ∙ c.finish_update.ensures.clock)
    (popped c.self.inside.rest.results c.push.new.self c.pop.new.self _ c.pop.result c.in_ok-push.ensures.ok
    c.pop.ensures)
    ∙ c.self.view_is

pub invariant_of-self-in-Ok : goal.invariant_of-self-in-Ok
invariant_of-self-in-Ok c =
    let e = c.self.inside.engine in
    ended_sound e c.settle.new.self c.self.inside.queue c.self.inside.rest c.push.new.self c.args.ok
    c.in_ok-correlator.correlator (ap (λ (x : WholeMachine). takes x.machine (act c.args.ok)) c.self.view_is ∙ c.requires)
    (ap (λ w. w.state) c.settle.ensures.whole ∙ c.in-Ok.ensures.ok)
    (c.settle.ensures.clock ∙ c.finish_update.ensures.clock)
    (c.in_ok-correlator.ensures ∙ ap correlator_of c.started.ensures.started) c.in_ok-push.ensures.ok c.self.invariant
    (c.settle.ensures.max_obj ∙ c.finish_update.ensures.max_obj) c.settle.ensures.sound c.settle.ensures.past
    (c.settle.ensures.parked (c.finish_update.ensures.marks.parked c.self.invariant.none_left))

pub returns-in-Ok-clause-ok : goal.returns-in-Ok-clause-ok
returns-in-Ok-clause-ok c =
    let e = c.self.inside.engine in
    ended_next e c.settle.new.self c.self.inside.queue c.self.inside.rest c.push.new.self c.args.ok
    c.in_ok-correlator.correlator (ap (λ (x : WholeMachine). takes x.machine (act c.args.ok)) c.self.view_is ∙ c.requires)
    (ap (λ w. w.state) c.settle.ensures.whole ∙ c.in-Ok.ensures.ok)
    (c.settle.ensures.clock ∙ c.finish_update.ensures.clock)
    (c.in_ok-correlator.ensures ∙ ap correlator_of c.started.ensures.started) c.in_ok-push.ensures.ok
    ∙ ap (λ (x : WholeMachine). next x.machine (act c.args.ok)) c.self.view_is

pub returns-in-Err-clause-ids : goal.returns-in-Err-clause-ids
returns-in-Err-clause-ids c =
    let same = returns-in-Err-clause-err c in
    (ap (λ (x : WholeMachine). x.ids) same, ap (λ (x : WholeMachine). x.base_ids) same)

pub returns-in-Ok-clause-ids : goal.returns-in-Ok-clause-ids
returns-in-Ok-clause-ids c =
    let e = c.self.inside.engine in
    let r = c.self.inside.rest in
    let takes_it = ap (λ (x : WholeMachine). takes x.machine (act c.args.ok)) c.self.view_is ∙ c.requires in
    let closed = c.self.invariant.closed (not_open e c.self.inside.queue r c.args.ok takes_it) in
    let state = ap (λ w. w.state) c.settle.ensures.whole ∙ c.in-Ok.ensures.ok in
    let base = closed_same e c.settle.new.self closed (ap (λ s. s.group) state ∙ closed) in (
      ap (λ w. w.ids) c.settle.ensures.whole ∙ c.finish_update.ensures.ids ∙ ap (λ (x : WholeMachine). x.ids) c.self.view_is,
      base ∙ ap (λ (x : WholeMachine). x.base_ids) c.self.view_is,
    )
