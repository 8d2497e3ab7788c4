use Rattle.dm_job.proofs.Soundness.{jobs_are_sound}
use Rattle.dm_job.proofs.laws.jobs_are_sound.Goals as goal

pub returns : goal.returns
returns c = jobs_are_sound
