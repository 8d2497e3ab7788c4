use Rattle.std.proofs.Common.{◌≡◌, ◌∙◌, ◌<◌, ap, subst, sym, refl, length}
use Rattle.std.proofs.lemmas.Bool.{lt-ltb}
use Rattle.std.specs.Prelude.{nat_lt, true}
use Rattle.dm_tree.specs.Rows.{nodes}
use Rattle.dm_atomic.specs.Engine.{state_of}
use Rattle.dm_atomic.specs.Marks
use Rattle.dm_atomic.specs.Marks.{whole_of}
use Rattle.dm_atomic.specs.Updates.{TellsStarted}
use Rattle.dm_atomic.proofs.Tellings.{quiet_keeps}
use Rattle.dm_atomic.specs.Run.{State}
use Rattle.dm_commands.specs.Promises.{none_moved}
use Rattle.dm_atomic.proofs.Staying.{stay_committed}
use Rattle.dm_machine.specs.Ready.{IsDevice}
use Rattle.dm_machine.proofs.ToldGroups.{abandoned_ready}
use Rattle.dm_machine.specs.Machine.{Machine}
use Rattle.dm_machine.specs.Events.{opened}
use Rattle.dm_machine.specs.History.{answer_now}
use Rattle.dm_session.specs.Inside.{machine_of, session_in}
use Rattle.dm_session.specs.View.{WholeMachine}
use Rattle.dm_session.proofs.Clients.{back_goes_on, same_client, begun_is, begun_lives, begun_machine_is, begun_next}
use Rattle.dm_session.proofs.Clients.{begun_answer, begun_some}
use Rattle.dm_session.proofs.Kept.{stay_is, stay_settled, seen_stay, kept_seen, kept_self}
use Rattle.dm_session.proofs.client.Client.begin.Goals as goal

pub open-requires-clause-device : goal.open-requires-clause-device
open-requires-clause-device c =
    let ready = c.self.invariant.goes_on.ready in
    subst IsDevice (sym (ap (λ (s : State). s.tree) c.abandon.ensures.state))
    (abandoned_ready _ (state_of c.self.inside.engine) ready.engine).tree

pub back-requires-clause-held : goal.back-requires-clause-held
back-requires-clause-held c =
    (c.abandon.ensures.marks.marks c.mark-mark.result (whole_of c.self.inside.engine) c.mark-mark.ensures.recalls).held

pub invariant_of-self : goal.invariant_of-self
invariant_of-self c =
    let e = c.self.inside.engine in
    let recalled = c.abandon.ensures.marks.marks c.mark-mark.result (whole_of e) c.mark-mark.ensures.recalls in
    record {
      goes_on = back_goes_on e c.back.new.self c.self.inside.queue c.self.inside.queue c.self.inside.rest
          c.self.invariant.goes_on (c.back.ensures.whole (whole_of e) recalled)
          (c.back.ensures.clock ∙ c.abandon.ensures.clock)
          (c.back.ensures.max_obj ∙ c.abandon.ensures.max_obj) c.back.ensures.sound refl;
      sent = c.self.invariant.sent;
      farewell = c.self.invariant.farewell;
      settled = c.back.ensures.past ∙ c.abandon.ensures.marks.pasts c.mark-mark.result c.mark-mark.ensures.recalls.held
          ∙ c.mark-mark.ensures.past ∙ c.self.invariant.settled;
      none_left = c.back.ensures.parked (c.abandon.ensures.marks.parked c.self.invariant.none_left);
      told = subst (λ (w : Marks.Whole). TellsStarted w.state) (sym (c.back.ensures.whole (whole_of e) recalled))
          c.self.invariant.told;
      closed =
          λ h. ap (λ (w : Marks.Whole). w.state.group) (c.back.ensures.whole (whole_of e) recalled)
          ∙ c.self.invariant.closed h;
    }

pub invariant_of-self-in-Ok : goal.invariant_of-self-in-Ok
invariant_of-self-in-Ok c =
    let e = c.self.inside.engine in
    let r = c.self.inside.rest in
    let is =
    begun_is e c.abandon.new.self c.settle.new.self c.self.inside.queue c.in-Ok.queue r c.args.account c.args.kind
    c.args.session c.in-Ok.first c.abandon.ensures.state c.abandon.ensures.clock c.settle.ensures.whole
    c.settle.ensures.clock
    c.in-Ok.ensures.state in
    begun_lives c.settle.new.self c.in-Ok.queue r c.begin.new.self c.args.session c.in-Ok.first
    (machine_of e c.self.inside.queue r) c.args.account c.args.kind c.begin.ensures c.settle.ensures.sound
    (c.settle.ensures.max_obj ∙ c.abandon.ensures.max_obj ∙ c.self.invariant.goes_on.max_obj) c.in-Ok.ensures.spelled is
    c.self.invariant.goes_on.ready
    (subst (λ (w : WholeMachine). c.args.account < length w.machine.accounts) (sym c.self.view_is) c.requires)
    c.ranges.session.fits c.settle.ensures.past
    (c.settle.ensures.parked (c.abandon.ensures.marks.parked c.self.invariant.none_left))
    (subst (λ (w : Marks.Whole). TellsStarted w.state) (sym c.settle.ensures.whole)
    (subst TellsStarted (sym c.abandon.ensures.state) (quiet_keeps (state_of e) c.self.invariant.told).1))

pub returns-in-Err-clause-err : goal.returns-in-Err-clause-err
returns-in-Err-clause-err c =
    let e = c.self.inside.engine in
    let recalled = c.abandon.ensures.marks.marks c.mark-mark.result (whole_of e) c.mark-mark.ensures.recalls in
    same_client e c.back.new.self c.self.inside.queue c.self.inside.queue c.self.inside.rest
    (c.back.ensures.whole (whole_of e) recalled) (c.back.ensures.clock ∙ c.abandon.ensures.clock) refl
    ∙ c.self.view_is

pub returns-in-Ok-clause-answer : goal.returns-in-Ok-clause-answer
returns-in-Ok-clause-answer c =
    let e = c.self.inside.engine in
    let r = c.self.inside.rest in
    let old = ap (λ (w : WholeMachine). w.machine) c.self.view_is in
    let later = lt-ltb r.begun c.args.session c.if-session-self.false in
    let is =
    begun_is e c.abandon.new.self c.settle.new.self c.self.inside.queue c.in-Ok.queue r c.args.account c.args.kind
    c.args.session c.in-Ok.first c.abandon.ensures.state c.abandon.ensures.clock c.settle.ensures.whole
    c.settle.ensures.clock
    c.in-Ok.ensures.state in
    let answer = begun_answer (machine_of e c.self.inside.queue r) _ c.args.account c.args.kind c.args.session
    (session_in c.in-Ok.first) later is refl in
    begun_some c.begin.new.self r c.args.session c.in-Ok.first _ c.begin.ensures
    (ap (λ x. answer_now x (opened c.args.account c.args.kind c.args.session)) (sym old) ∙ answer)

pub returns-in-Ok-clause-ok : goal.returns-in-Ok-clause-ok
returns-in-Ok-clause-ok c =
    let e = c.self.inside.engine in
    let r = c.self.inside.rest in
    let old = ap (λ (w : WholeMachine). w.machine) c.self.view_is in
    let later = lt-ltb r.begun c.args.session c.if-session-self.false in
    let is =
    begun_is e c.abandon.new.self c.settle.new.self c.self.inside.queue c.in-Ok.queue r c.args.account c.args.kind
    c.args.session c.in-Ok.first c.abandon.ensures.state c.abandon.ensures.clock c.settle.ensures.whole
    c.settle.ensures.clock
    c.in-Ok.ensures.state in
    begun_next c.args.self.now.machine _ c.args.account c.args.kind c.args.session
    (subst (λ (x : Machine). nat_lt x.begun c.args.session ≡ true) old later)
    (begun_machine_is c.settle.new.self c.in-Ok.queue r c.begin.new.self c.args.session c.in-Ok.first
    (machine_of e c.self.inside.queue r) c.args.self.now.machine c.args.account c.args.kind c.begin.ensures is old)

pub returns-in-Err-clause-ids : goal.returns-in-Err-clause-ids
returns-in-Err-clause-ids c =
    let e = c.self.inside.engine in
    let recalled = c.abandon.ensures.marks.marks c.mark-mark.result (whole_of e) c.mark-mark.ensures.recalls in
    seen_stay none_moved c.self.inside c.args.self.now (whole_of c.back.new.self) c.self.view_is
    (stay_is none_moved (whole_of e) (whole_of c.back.new.self) (c.back.ensures.whole (whole_of e) recalled))

pub returns-in-Ok-clause-ids : goal.returns-in-Ok-clause-ids
returns-in-Ok-clause-ids c =
    let e = c.self.inside.engine in
    let given_up = c.abandon.new.self in
    seen_stay none_moved c.self.inside c.args.self.now (whole_of c.settle.new.self) c.self.view_is
    (stay_settled none_moved (whole_of e) (whole_of given_up) (whole_of c.settle.new.self) c.settle.ensures.whole
    (stay_committed (whole_of e) (whole_of given_up) c.abandon.ensures.ids c.abandon.ensures.base))

pub returns-then-session-self-clause-kept : goal.returns-then-session-self-clause-kept
returns-then-session-self-clause-kept c closed = kept_self none_moved c.args.self.now.ids

pub returns-in-Err-clause-kept : goal.returns-in-Err-clause-kept
returns-in-Err-clause-kept c =
    kept_seen none_moved c.self.inside c.args.self.now (whole_of c.back.new.self) c.self.view_is
    (returns-in-Err-clause-ids c)

pub returns-in-Ok-clause-kept : goal.returns-in-Ok-clause-kept
returns-in-Ok-clause-kept c =
    kept_seen none_moved c.self.inside c.args.self.now (whole_of c.settle.new.self) c.self.view_is
    (returns-in-Ok-clause-ids c)
