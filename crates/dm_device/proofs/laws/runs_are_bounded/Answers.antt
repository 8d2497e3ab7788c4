use Rattle.dm_device.proofs.Bounds.{run_bounded}
use Rattle.dm_device.proofs.laws.runs_are_bounded.Goals as goal

pub returns : goal.returns
returns c = run_bounded
