use Rattle.dm_job.proofs.Refusals.{refusals_are_first}
use Rattle.dm_job.proofs.laws.refusals_are_first.Goals as goal

pub returns : goal.returns
returns c = refusals_are_first
