use Rattle.dm_world.proofs.Leaving.{executes_as_said}
use Rattle.dm_world.proofs.executes_as_said.Goals as goal

pub returns : goal.returns
returns c = executes_as_said
