use Rattle.dm_machine.proofs.Statuses.{unaccepted_executes_nothing}
use Rattle.dm_machine.proofs.laws.unaccepted_executes_nothing.Goals as goal

pub returns : goal.returns
returns c = unaccepted_executes_nothing
