use Rattle.dm_world.proofs.Keeps.{sends_or_keeps}
use Rattle.dm_world.proofs.sends_or_keeps.Goals as goal

pub returns : goal.returns
returns c = sends_or_keeps
