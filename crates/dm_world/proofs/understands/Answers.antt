use Rattle.dm_world.proofs.Turns.{understands}
use Rattle.dm_world.proofs.understands.Goals as goal

pub returns : goal.returns
returns c = understands
