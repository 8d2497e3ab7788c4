use Rattle.std.proofs.Common.{◌≡◌, ◌∙◌, ap, subst, sym, refl, Ok, true}
use Rattle.std.specs.Prelude.{option_map}
use Rattle.dm_atomic.specs.Marks
use Rattle.dm_atomic.specs.Marks.{whole_of}
use Rattle.dm_atomic.specs.Updates.{TellsStarted}
use Rattle.dm_machine.specs.Events.{message}
use Rattle.dm_machine.specs.Machine.{Machine}
use Rattle.dm_machine.specs.Events.{takes}
use Rattle.dm_session.specs.Inside.{machine_of, session_in}
use Rattle.dm_session.specs.View.{WholeMachine}
use Rattle.dm_session.proofs.Clients.{back_goes_on, same_client, drafted_lives, steady_of}
use Rattle.dm_session.specs.Stays.{body_covers}
use Rattle.dm_session.proofs.Kept.{stay_is, stay_settled, seen_stay}
use Rattle.dm_session.proofs.client.Client.accept.Goals as goal

pub back-requires-clause-held : goal.back-requires-clause-held
back-requires-clause-held c =
    (c.accept.ensures.keeps.marks.marks c.mark-mark.result (whole_of c.self.inside.engine) c.mark-mark.ensures.recalls).held

pub invariant_of-self : goal.invariant_of-self
invariant_of-self c =
    let e = c.self.inside.engine in
    let recalled = c.accept.ensures.keeps.marks.marks c.mark-mark.result (whole_of e) c.mark-mark.ensures.recalls in
    record {
      goes_on = back_goes_on e c.back.new.self c.self.inside.queue c.accept.new.queue c.self.inside.rest
          c.self.invariant.goes_on (c.back.ensures.whole (whole_of e) recalled)
          (c.back.ensures.clock ∙ c.accept.ensures.keeps.clock)
          (c.back.ensures.max_obj ∙ c.accept.ensures.keeps.max_obj) c.back.ensures.sound c.in-Err.ensures.err;
      sent = c.self.invariant.sent;
      farewell = c.self.invariant.farewell;
      settled = c.back.ensures.past ∙ c.accept.ensures.keeps.marks.pasts c.mark-mark.result c.mark-mark.ensures.recalls.held
          ∙ c.mark-mark.ensures.past ∙ c.self.invariant.settled;
      none_left = c.back.ensures.parked (c.accept.ensures.keeps.marks.parked c.self.invariant.none_left);
      told = subst (λ (w : Marks.Whole). TellsStarted w.state) (sym (c.back.ensures.whole (whole_of e) recalled))
          c.self.invariant.told;
      closed =
          λ h. ap (λ (w : Marks.Whole). w.state.group) (c.back.ensures.whole (whole_of e) recalled)
          ∙ c.self.invariant.closed h;
    }

pub invariant_of-self-in-Ok : goal.invariant_of-self-in-Ok
invariant_of-self-in-Ok c =
    let e = c.self.inside.engine in
    let r = c.self.inside.rest in
    let old = ap (λ (w : WholeMachine). w.machine) c.self.view_is in
    let came = message (Ok c.args.message) c.args.nonce.now.bytes in
    drafted_lives c.accept.new.engine c.settle.new.self c.accept.new.queue r c.take_up.new.self
    c.in-Some.session.progress.account c.in-Ok.draft (machine_of e c.self.inside.queue r) (session_in c.in-Some.session)
    c.args.message c.args.nonce.now.bytes c.take_up.ensures.rest
    (subst (λ x. takes x came ≡ true) (sym old) c.requires.takes) (ap (option_map session_in) c.in-Some.is)
    c.in-Ok.ensures.state
    c.settle.ensures.whole c.settle.ensures.clock c.settle.ensures.sound
    (c.settle.ensures.max_obj ∙ c.accept.ensures.keeps.max_obj ∙ c.self.invariant.goes_on.max_obj)
    c.self.invariant.goes_on.ready
    c.requires.message c.in-Ok.ensures.spelled c.self.invariant.sent c.self.invariant.farewell
    c.settle.ensures.past
    (c.settle.ensures.parked (c.accept.ensures.keeps.marks.parked c.self.invariant.none_left))
    (steady_of c.self.inside c.self.invariant)

pub returns-in-Err-clause-err : goal.returns-in-Err-clause-err
returns-in-Err-clause-err c =
    let e = c.self.inside.engine in
    let recalled = c.accept.ensures.keeps.marks.marks c.mark-mark.result (whole_of e) c.mark-mark.ensures.recalls in
    same_client e c.back.new.self c.self.inside.queue c.accept.new.queue c.self.inside.rest
    (c.back.ensures.whole (whole_of e) recalled) (c.back.ensures.clock ∙ c.accept.ensures.keeps.clock) c.in-Err.ensures.err
    ∙ c.self.view_is

pub returns-in-Err-clause-ids : goal.returns-in-Err-clause-ids
returns-in-Err-clause-ids c =
    let e = c.self.inside.engine in
    let covered = body_covers c.args.message.body in
    let recalled = c.accept.ensures.keeps.marks.marks c.mark-mark.result (whole_of e) c.mark-mark.ensures.recalls in
    seen_stay covered c.self.inside c.args.self.now (whole_of c.back.new.self) c.self.view_is
    (stay_is covered (whole_of e) (whole_of c.back.new.self) (c.back.ensures.whole (whole_of e) recalled))

pub returns-in-Ok-clause-ids : goal.returns-in-Ok-clause-ids
returns-in-Ok-clause-ids c =
    let e = c.self.inside.engine in
    let covered = body_covers c.args.message.body in
    seen_stay covered c.self.inside c.args.self.now (whole_of c.settle.new.self) c.self.view_is
    (stay_settled covered (whole_of e) (whole_of c.accept.new.engine) (whole_of c.settle.new.self)
    c.settle.ensures.whole c.accept.ensures.keeps.ids)
