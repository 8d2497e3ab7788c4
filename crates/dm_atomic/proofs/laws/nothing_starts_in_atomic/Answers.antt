use Rattle.dm_atomic.proofs.Insides.{tasks_start_nothing, atomic_starts_nothing}
use Rattle.dm_atomic.proofs.laws.nothing_starts_in_atomic.Goals as goal

pub returns-clause-tasks : goal.returns-clause-tasks
returns-clause-tasks c = tasks_start_nothing

pub returns-clause-block : goal.returns-clause-block
returns-clause-block c = atomic_starts_nothing
