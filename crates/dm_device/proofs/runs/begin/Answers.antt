use Rattle.std.proofs.Common.{ap, length, ◌∙◌}
use Rattle.dm_machine.specs.Machine.{Machine}
use Rattle.dm_machine.proofs.Accounts.{accounts_stay}
use Rattle.dm_device.proofs.runs.begin.Goals as goal

pub returns-in-Ok-clause-accounts : goal.returns-in-Ok-clause-accounts
returns-in-Ok-clause-accounts c = ap (λ (m : Machine). length m.accounts) c.in-Ok.ensures.ok ∙ accounts_stay _ _
