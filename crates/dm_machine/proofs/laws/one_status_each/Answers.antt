use Rattle.dm_machine.proofs.Statuses.{one_status_each}
use Rattle.dm_machine.proofs.laws.one_status_each.Goals as goal

pub returns : goal.returns
returns c = one_status_each
