use Rattle.dm_service.proofs.Read.{values_are_read}
use Rattle.dm_service.proofs.laws.values_are_read.Goals as goal

pub returns : goal.returns
returns c = values_are_read
