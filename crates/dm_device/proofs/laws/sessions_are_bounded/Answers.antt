use Rattle.dm_device.proofs.Bounds.{bounded}
use Rattle.dm_device.proofs.laws.sessions_are_bounded.Goals as goal

pub returns : goal.returns
returns c = bounded
