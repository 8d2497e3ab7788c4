use Rattle.dm_atomic.proofs.UpdateEnds.{begun_with_its_update}
use Rattle.dm_atomic.proofs.laws.begins_with_its_update.Goals as goal

pub returns : goal.returns
returns c = begun_with_its_update
