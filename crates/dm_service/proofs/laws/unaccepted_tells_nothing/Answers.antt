use Rattle.dm_service.proofs.Unaccepted.{unaccepted_tells_nothing}
use Rattle.dm_service.proofs.laws.unaccepted_tells_nothing.Goals as goal

pub returns : goal.returns
returns c = unaccepted_tells_nothing
