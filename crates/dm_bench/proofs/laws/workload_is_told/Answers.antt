use Rattle.dm_bench.proofs.Workloads as workloads
use Rattle.dm_bench.proofs.laws.workload_is_told.Goals as goal

pub returns : goal.returns
returns c = workloads.workload_is_told c.hex_is_read_again.ensures
