use Rattle.std.proofs.Common.{◌∙◌, ap, refl}
use Rattle.std.specs.Prelude.{option_map}
use Rattle.dm_service.specs.History.{next}
use Rattle.dm_service.specs.Events.{arrival}
use Rattle.dm_server.specs.Inside.{message_in}
use Rattle.dm_server.proofs.Services.{begin_taken, told_as}
use Rattle.dm_server.proofs.server.Server.begin.Goals as goal

pub invariant_of-self-2 : goal.invariant_of-self-2
invariant_of-self-2 c =
    (begin_taken c.self.inside _ c.first_session-session.result c.accept.new.session c.begun-run.result
    c.in_ok-draft.draft c.args.self.now c.args.number c.args.message.now c.args.nonce.now.bytes c.self.invariant
    c.requires.message c.self.view_is c.requires.comes c.first_session-session.ensures.session
    c.first_session-session.ensures.queue c.begun-run.ensures.packages c.begun-run.ensures.newest
    c.begun-run.ensures.runs_in c.take_up.ensures.plan c.take_up.ensures.run refl c.take_up.ensures.sent
    c.in_ok-draft.ensures.stands c.in_ok-draft.ensures.reply
    (c.in_ok-draft.ensures.state (option_map message_in c.self.inside.sent))).sound

pub returns-clause-answer : goal.returns-clause-answer
returns-clause-answer c =
    told_as c.self.inside _ c.in_ok-draft.draft c.args.self.now c.args.message.now c.args.nonce.now.bytes
    c.take_up.result
    (begin_taken c.self.inside _ c.first_session-session.result c.accept.new.session c.begun-run.result
    c.in_ok-draft.draft c.args.self.now c.args.number c.args.message.now c.args.nonce.now.bytes c.self.invariant
    c.requires.message c.self.view_is c.requires.comes c.first_session-session.ensures.session
    c.first_session-session.ensures.queue c.begun-run.ensures.packages c.begun-run.ensures.newest
    c.begun-run.ensures.runs_in c.take_up.ensures.plan c.take_up.ensures.run refl c.take_up.ensures.sent
    c.in_ok-draft.ensures.stands c.in_ok-draft.ensures.reply
    (c.in_ok-draft.ensures.state (option_map message_in c.self.inside.sent))) c.self.view_is
    c.take_up.ensures.answer

pub returns-clause-ok : goal.returns-clause-ok
returns-clause-ok c =
    (begin_taken c.self.inside _ c.first_session-session.result c.accept.new.session c.begun-run.result
    c.in_ok-draft.draft c.args.self.now c.args.number c.args.message.now c.args.nonce.now.bytes c.self.invariant
    c.requires.message c.self.view_is c.requires.comes c.first_session-session.ensures.session
    c.first_session-session.ensures.queue c.begun-run.ensures.packages c.begun-run.ensures.newest
    c.begun-run.ensures.runs_in c.take_up.ensures.plan c.take_up.ensures.run refl c.take_up.ensures.sent
    c.in_ok-draft.ensures.stands c.in_ok-draft.ensures.reply
    (c.in_ok-draft.ensures.state (option_map message_in c.self.inside.sent))).next_is
    ∙ ap (λ v. next v (arrival c.args.message.now c.args.nonce.now.bytes)) c.self.view_is
