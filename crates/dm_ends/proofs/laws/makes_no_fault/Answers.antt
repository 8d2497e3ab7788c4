use Rattle.dm_ends.proofs.Distinct.{makes_no_fault}
use Rattle.dm_ends.proofs.laws.makes_no_fault.Goals as goal

pub returns : goal.returns
returns c = makes_no_fault
