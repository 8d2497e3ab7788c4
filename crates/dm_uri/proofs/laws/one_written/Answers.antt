use Rattle.dm_uri.proofs.BothWays.{one_written}
use Rattle.dm_uri.proofs.laws.one_written.Goals as goal

pub returns : goal.returns
returns c = one_written
