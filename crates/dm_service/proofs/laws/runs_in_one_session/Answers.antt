use Rattle.dm_service.proofs.Runs.{runs_in_one_session}
use Rattle.dm_service.proofs.laws.runs_in_one_session.Goals as goal

pub returns : goal.returns
returns c = runs_in_one_session
