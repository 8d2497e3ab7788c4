use Rattle.dm_service.proofs.Values.{values_are_found}
use Rattle.dm_service.proofs.laws.values_are_found.Goals as goal

pub returns : goal.returns
returns c = values_are_found
