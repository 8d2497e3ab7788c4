use Rattle.dm_world.proofs.Answered.{answers_the_executed}
use Rattle.dm_world.proofs.answers_the_executed.Goals as goal

pub returns : goal.returns
returns c = answers_the_executed
