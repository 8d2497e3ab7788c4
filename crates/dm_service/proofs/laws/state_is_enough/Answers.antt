use Rattle.dm_service.proofs.History.{state_is_enough}
use Rattle.dm_service.proofs.laws.state_is_enough.Goals as goal

pub returns : goal.returns
returns c = state_is_enough
