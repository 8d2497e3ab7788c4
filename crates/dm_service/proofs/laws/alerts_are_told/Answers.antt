use Rattle.dm_service.proofs.Alerts.{alerts_are_told}
use Rattle.dm_service.proofs.laws.alerts_are_told.Goals as goal

pub returns : goal.returns
returns c = alerts_are_told
