use Rattle.dm_start.proofs.Sound.{starts_are_sound}
use Rattle.dm_start.proofs.laws.starts_are_sound.Goals as goal

pub returns : goal.returns
returns c = starts_are_sound
