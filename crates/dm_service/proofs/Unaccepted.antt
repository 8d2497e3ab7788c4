-- A message that doesn't pass the checks of its header tells nothing of the job.
use Rattle.std.proofs.Common.{refl}
use Rattle.dm_service.specs.Laws.{UnacceptedTellsNothing}

pub unaccepted_tells_nothing : UnacceptedTellsNothing
unaccepted_tells_nothing v s m code h = rw h refl
