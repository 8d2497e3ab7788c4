use Rattle.dm_service.proofs.Stays.{stays_ready}
use Rattle.dm_service.proofs.laws.machines_stay_ready.Goals as goal

pub returns : goal.returns
returns c = stays_ready
