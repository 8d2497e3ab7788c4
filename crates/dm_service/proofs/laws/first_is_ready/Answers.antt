use Rattle.dm_service.proofs.First.{first_is_ready}
use Rattle.dm_service.proofs.laws.first_is_ready.Goals as goal

pub returns : goal.returns
returns c = first_is_ready
