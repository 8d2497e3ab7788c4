use Rattle.std.proofs.Common.{ap, length, ◌∙◌}
use Rattle.dm_machine.specs.Machine.{Machine}
use Rattle.dm_machine.proofs.Accounts.{accounts_stay}
use Rattle.dm_session.specs.View.{WholeMachine}
use Rattle.dm_device.proofs.Talking.{body_heard, body_wants}
use Rattle.dm_device.proofs.sessions.hear.Goals as goal

pub returns-in-Ok-clause-turns : goal.returns-in-Ok-clause-turns
returns-in-Ok-clause-turns g c =
    body_heard _ _ _ _ _ _ _ _ c.in-Ok.answer c.weigh.result c.in-Ok.ensures.answer c.in-Ok.ensures.ok
    c.weigh.ensures.turns c.next-nonce.ensures.left

pub returns-in-Ok-clause-accounts : goal.returns-in-Ok-clause-accounts
returns-in-Ok-clause-accounts g c =
    ap (λ (m : Machine). length m.accounts) c.in-Ok.ensures.ok ∙ accounts_stay _ _

pub returns-in-Err-clause-turns : goal.returns-in-Err-clause-turns
returns-in-Err-clause-turns g c =
    body_wants _ _ c.args.client.now.machine c.args.client.now.machine c.args.tally.now c.args.tally.now
    c.args.bytes.now _ _
    c.next-nonce.ensures.left

pub returns-in-Err-clause-accounts : goal.returns-in-Err-clause-accounts
returns-in-Err-clause-accounts g c = ap (λ (w : WholeMachine). length w.machine.accounts) c.in-Err.ensures.err
