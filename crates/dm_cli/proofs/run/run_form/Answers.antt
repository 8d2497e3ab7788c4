use Rattle.dm_cli.proofs.Lacking.{untaken}
use Rattle.dm_cli.proofs.run.run_form.Goals as goal

pub returns-in-Bench-clause-taken : goal.returns-in-Bench-clause-taken
returns-in-Bench-clause-taken g c = untaken _ _ _

pub returns-in-Bench-clause-faults : goal.returns-in-Bench-clause-faults
returns-in-Bench-clause-faults g c = c.run_bench.ensures.faults _
