use Rattle.dm_bench.proofs.Summing.{text_is}
use Rattle.dm_bench.proofs.workload.bench_line.Goals as goal

pub returns-in-Ok : goal.returns-in-Ok
returns-in-Ok c = text_is c.args.seed c.args.nodes c.args.messages _ _ c.in-Ok.ensures c.run.ensures
