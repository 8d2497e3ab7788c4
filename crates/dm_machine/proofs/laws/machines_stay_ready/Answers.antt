use Rattle.dm_machine.proofs.StaysReady.{stays_ready}
use Rattle.dm_machine.proofs.laws.machines_stay_ready.Goals as goal

pub returns : goal.returns
returns c = stays_ready
