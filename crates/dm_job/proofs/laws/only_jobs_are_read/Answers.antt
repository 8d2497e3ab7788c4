use Rattle.dm_job.proofs.Parsed.{only_jobs_are_read}
use Rattle.dm_job.proofs.laws.only_jobs_are_read.Goals as goal

pub returns : goal.returns
returns c = only_jobs_are_read
