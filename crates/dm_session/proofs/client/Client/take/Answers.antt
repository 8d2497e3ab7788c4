use Rattle.std.proofs.Common.{ap, sym, Ok}
use Rattle.dm_machine.specs.Events.{message}
use Rattle.dm_session.specs.View.{WholeMachine}
use Rattle.dm_session.proofs.Clients.{old_answer, old_next}
use Rattle.dm_atomic.proofs.Staying.{stay_self}
use Rattle.dm_session.specs.Stays.{body_covers, engine_in}
use Rattle.dm_session.proofs.client.Client.take.Goals as goal

pub accept-requires-clause-takes : goal.accept-requires-clause-takes
accept-requires-clause-takes c =
    c.in-None.ensures.new c.args.self.now.machine c.args.nonce.now.bytes
    (ap (λ (w : WholeMachine). w.machine.session) (sym c.self.view_is))

pub returns-in-Some-clause-answer : goal.returns-in-Some-clause-answer
returns-in-Some-clause-answer c =
    let old = c.in-Some.ensures.old c.args.self.now.machine c.args.nonce.now.bytes
    (ap (λ (w : WholeMachine). w.machine.session) (sym c.self.view_is)) in
    old_answer c.args.self.now.machine (message (Ok c.args.message) c.args.nonce.now.bytes) c.in-Some.answer old.0
    old.1

pub returns-in-Some-clause-ok : goal.returns-in-Some-clause-ok
returns-in-Some-clause-ok c =
    let old = c.in-Some.ensures.old c.args.self.now.machine c.args.nonce.now.bytes
    (ap (λ (w : WholeMachine). w.machine.session) (sym c.self.view_is)) in
    old_next c.args.self.now.machine (message (Ok c.args.message) c.args.nonce.now.bytes) old.0

pub returns-in-Some-clause-ids : goal.returns-in-Some-clause-ids
returns-in-Some-clause-ids c = stay_self (body_covers c.args.message.body) (engine_in c.args.self.now)

pub returns-in-None-clause-untaken : goal.returns-in-None-clause-untaken
returns-in-None-clause-untaken c old =
    let new = c.in-None.ensures.new c.args.self.now.machine c.args.nonce.now.bytes
    (ap (λ (w : WholeMachine). w.machine.session) (sym c.self.view_is)) in
    absurd (cc)
