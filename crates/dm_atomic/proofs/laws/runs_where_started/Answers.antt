use Rattle.dm_atomic.proofs.Starting.{step_starts}
use Rattle.dm_atomic.proofs.laws.runs_where_started.Goals as goal

pub returns : goal.returns
returns c = step_starts
