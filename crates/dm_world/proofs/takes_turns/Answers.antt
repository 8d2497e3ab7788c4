use Rattle.dm_world.proofs.Turns.{takes_turns}
use Rattle.dm_world.proofs.takes_turns.Goals as goal

pub returns : goal.returns
returns c = takes_turns
