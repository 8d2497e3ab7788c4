use Rattle.dm_service.proofs.Runs.{sends_once}
use Rattle.dm_service.proofs.laws.sends_once.Goals as goal

pub returns : goal.returns
returns c = sends_once
