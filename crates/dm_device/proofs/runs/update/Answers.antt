use Rattle.std.proofs.Common.{ap, length, ◌∙◌}
use Rattle.dm_machine.specs.Machine.{Machine}
use Rattle.dm_machine.proofs.Accounts.{accounts_stay}
use Rattle.dm_device.proofs.runs.update.Goals as goal

pub returns-in-Ok-acted-clause-accounts : goal.returns-in-Ok-acted-clause-accounts
returns-in-Ok-acted-clause-accounts g c =
    ap (λ (m : Machine). length m.accounts) c.in-Ok-acted.ensures.ok ∙ accounts_stay _ _
