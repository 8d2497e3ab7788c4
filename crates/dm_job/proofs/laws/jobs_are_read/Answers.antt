use Rattle.dm_job.proofs.Whole.{jobs_are_read}
use Rattle.dm_job.proofs.laws.jobs_are_read.Goals as goal

pub returns : goal.returns
returns c = jobs_are_read
