use Rattle.dm_world.proofs.Leaving.{queues_as_said}
use Rattle.dm_world.proofs.queues_as_said.Goals as goal

pub returns : goal.returns
returns c = queues_as_said
