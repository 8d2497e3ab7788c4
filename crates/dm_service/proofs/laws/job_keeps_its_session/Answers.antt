use Rattle.dm_service.proofs.Idle.{job_keeps_its_session}
use Rattle.dm_service.proofs.laws.job_keeps_its_session.Goals as goal

pub returns : goal.returns
returns c = job_keeps_its_session
