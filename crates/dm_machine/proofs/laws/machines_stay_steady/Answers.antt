use Rattle.dm_machine.proofs.Steady.{stays_steady}
use Rattle.dm_machine.proofs.laws.machines_stay_steady.Goals as goal

pub returns : goal.returns
returns c = stays_steady
