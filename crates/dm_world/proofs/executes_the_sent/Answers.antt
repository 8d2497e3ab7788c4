use Rattle.dm_world.proofs.Answered.{executes_the_sent}
use Rattle.dm_world.proofs.executes_the_sent.Goals as goal

pub returns : goal.returns
returns c = executes_the_sent
