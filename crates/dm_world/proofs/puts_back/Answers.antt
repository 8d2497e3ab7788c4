use Rattle.dm_world.proofs.Returns.{puts_back}
use Rattle.dm_world.proofs.puts_back.Goals as goal

pub returns : goal.returns
returns c = puts_back
