use Rattle.dm_machine.proofs.Rising.{accepted_numbers_rise}
use Rattle.dm_machine.proofs.laws.accepted_numbers_rise.Goals as goal

pub returns : goal.returns
returns c = accepted_numbers_rise
