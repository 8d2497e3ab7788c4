use Rattle.dm_job.proofs.Told.{refusals_are_told}
use Rattle.dm_job.proofs.laws.refusals_are_told.Goals as goal

pub returns : goal.returns
returns c = refusals_are_told
