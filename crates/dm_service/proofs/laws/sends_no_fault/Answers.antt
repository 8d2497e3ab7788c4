use Rattle.dm_service.proofs.Faultless.{sends_no_fault}
use Rattle.dm_service.proofs.laws.sends_no_fault.Goals as goal

pub returns : goal.returns
returns c = sends_no_fault
