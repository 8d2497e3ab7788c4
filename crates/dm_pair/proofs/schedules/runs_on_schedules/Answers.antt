use Rattle.dm_pair.proofs.OnSchedule.{runs_on_schedules}
use Rattle.dm_pair.proofs.schedules.runs_on_schedules.Goals as goal

pub returns : goal.returns
returns c = runs_on_schedules
