use Rattle.dm_world.proofs.Executes.{executes_all}
use Rattle.dm_world.proofs.executes_all.Goals as goal

pub returns : goal.returns
returns c = executes_all
