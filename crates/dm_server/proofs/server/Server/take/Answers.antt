use Rattle.std.proofs.Common.{ap, subst, sym}
use Rattle.dm_service.specs.Service.{Service}
use Rattle.dm_service.specs.Events.{arrival}
use Rattle.dm_server.specs.Inside.{KeepsReply}
use Rattle.dm_server.proofs.Services.{next_old, old_tells}
use Rattle.dm_server.proofs.server.Server.take.Goals as goal

pub returns-in-Old-clause-answer : goal.returns-in-Old-clause-answer
returns-in-Old-clause-answer c =
    let v = c.args.self.now in
    let nonce = c.args.nonce.now.bytes in
    let old = c.in-Old.ensures v nonce (ap (λ (w : Service). w.session) (sym c.self.view_is)) in
    old_tells v (arrival c.args.message.now nonce) c.in-Old.answer old.0
    (old.1 (subst KeepsReply c.self.view_is c.self.invariant.reply))

pub returns-in-Old-clause-ok : goal.returns-in-Old-clause-ok
returns-in-Old-clause-ok c =
    let v = c.args.self.now in
    let nonce = c.args.nonce.now.bytes in
    let old = c.in-Old.ensures v nonce (ap (λ (w : Service). w.session) (sym c.self.view_is)) in
    next_old v (arrival c.args.message.now nonce) old.0
