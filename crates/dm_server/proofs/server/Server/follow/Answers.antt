use Rattle.std.proofs.Common.{◌∙◌, ap, refl}
use Rattle.std.specs.Prelude.{option_map}
use Rattle.dm_service.specs.History.{next}
use Rattle.dm_service.specs.Events.{arrival}
use Rattle.dm_server.specs.Inside.{message_in}
use Rattle.dm_server.proofs.Services.{follow_above, follow_taken, told_as}
use Rattle.dm_server.proofs.server.Server.follow.Goals as goal

pub accept-requires-clause-can_accept : goal.accept-requires-clause-can_accept
accept-requires-clause-can_accept c =
    follow_above c.self.inside c.in-Some.session c.args.self.now c.args.message.now c.args.nonce.now.bytes
    c.self.invariant c.self.view_is c.in-Some.is c.requires.comes

pub invariant_of-self-2 : goal.invariant_of-self-2
invariant_of-self-2 c =
    (follow_taken c.self.inside _ c.in-Some.session c.accept.new.session c.in_ok-draft.draft c.args.self.now
    c.args.message.now c.args.nonce.now.bytes c.self.invariant c.requires.message c.self.view_is c.in-Some.is
    c.requires.comes c.take_up.ensures.plan c.take_up.ensures.run refl c.take_up.ensures.sent
    c.in_ok-draft.ensures.stands c.in_ok-draft.ensures.reply
    (c.in_ok-draft.ensures.state (option_map message_in c.self.inside.sent))).sound

pub returns-clause-answer : goal.returns-clause-answer
returns-clause-answer c =
    told_as c.self.inside _ c.in_ok-draft.draft c.args.self.now c.args.message.now c.args.nonce.now.bytes
    c.take_up.result
    (follow_taken c.self.inside _ c.in-Some.session c.accept.new.session c.in_ok-draft.draft c.args.self.now
    c.args.message.now c.args.nonce.now.bytes c.self.invariant c.requires.message c.self.view_is c.in-Some.is
    c.requires.comes c.take_up.ensures.plan c.take_up.ensures.run refl c.take_up.ensures.sent
    c.in_ok-draft.ensures.stands c.in_ok-draft.ensures.reply
    (c.in_ok-draft.ensures.state (option_map message_in c.self.inside.sent))) c.self.view_is c.take_up.ensures.answer

pub returns-clause-ok : goal.returns-clause-ok
returns-clause-ok c =
    (follow_taken c.self.inside _ c.in-Some.session c.accept.new.session c.in_ok-draft.draft c.args.self.now
    c.args.message.now c.args.nonce.now.bytes c.self.invariant c.requires.message c.self.view_is c.in-Some.is
    c.requires.comes c.take_up.ensures.plan c.take_up.ensures.run refl c.take_up.ensures.sent
    c.in_ok-draft.ensures.stands c.in_ok-draft.ensures.reply
    (c.in_ok-draft.ensures.state (option_map message_in c.self.inside.sent))).next_is
    ∙ ap (λ v. next v (arrival c.args.message.now c.args.nonce.now.bytes)) c.self.view_is
