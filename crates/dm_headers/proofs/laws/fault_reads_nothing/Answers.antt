use Rattle.dm_headers.proofs.Faults.{fault_reads_nothing}
use Rattle.dm_headers.proofs.laws.fault_reads_nothing.Goals as goal

pub returns : goal.returns
returns c = fault_reads_nothing
