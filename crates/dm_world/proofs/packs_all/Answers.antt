use Rattle.dm_world.proofs.Packing.{packs_all}
use Rattle.dm_world.proofs.packs_all.Goals as goal

pub returns : goal.returns
returns c = packs_all
