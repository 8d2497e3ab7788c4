-- Which entries of a job can wait.
use Rattle.std.specs.Prelude.{◌<◌}
use Rattle.dm_job.specs.declared.job.JobEntry.{JobEntry}

-- it has a number of the job, from 1
abbrev pub IsNumberedEntry : JobEntry → Type 0
IsNumberedEntry e = 0 < e.number
