use Rattle.dm_pair.proofs.TextStarts.{starts_and_jobs_begin}
use Rattle.dm_pair.proofs.schedules.starts_and_jobs_begin.Goals as goal

pub returns : goal.returns
returns c = starts_and_jobs_begin c.jobs_are_sound.ensures
