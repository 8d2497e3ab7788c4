use Rattle.dm_pack.proofs.Progress.{the_first_goes_out as law}
use Rattle.dm_pack.proofs.laws.the_first_goes_out.Goals as goal

pub returns : goal.returns
returns c = law
