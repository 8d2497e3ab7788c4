use Rattle.dm_job.proofs.Reached.{reached_sound}
use Rattle.dm_job.proofs.reader.JobReader.finish.Goals as goal

pub returns-clause-sound : goal.returns-clause-sound
returns-clause-sound c =
    reached_sound c.self.inside.reading c.job_of.result c.self.invariant c.job_of.ensures
