use Rattle.dm_decimals.proofs.Decimals.{written_is_read as law}
use Rattle.dm_decimals.proofs.laws.written_is_read.Goals as goal

pub returns : goal.returns
returns c = law
