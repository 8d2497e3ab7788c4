use Rattle.dm_decimals.proofs.Decimals.{read_is_written as law}
use Rattle.dm_decimals.proofs.laws.read_is_written.Goals as goal

pub returns : goal.returns
returns c = law
