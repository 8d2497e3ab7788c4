use Rattle.dm_pack.proofs.Left.{the_rest_is_left as law}
use Rattle.dm_pack.proofs.laws.the_rest_is_left.Goals as goal

pub returns : goal.returns
returns c = law
