use Rattle.dm_pack.proofs.Left.{what_is_left_is_ready as law}
use Rattle.dm_pack.proofs.laws.what_is_left_is_ready.Goals as goal

pub returns : goal.returns
returns c = law
