use Rattle.dm_service.proofs.Codes.{codes_are_told}
use Rattle.dm_service.proofs.laws.codes_are_told.Goals as goal

pub returns : goal.returns
returns c = codes_are_told
