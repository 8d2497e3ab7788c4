use Rattle.dm_world.proofs.JobNumbers.{jobs_are_in_range}
use Rattle.dm_world.proofs.jobs_are_in_range.Goals as goal

pub returns : goal.returns
returns c = jobs_are_in_range
