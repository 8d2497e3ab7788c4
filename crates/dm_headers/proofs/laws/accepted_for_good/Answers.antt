use Rattle.dm_headers.proofs.Faults.{accepted_for_good}
use Rattle.dm_headers.proofs.laws.accepted_for_good.Goals as goal

pub returns : goal.returns
returns c = accepted_for_good
