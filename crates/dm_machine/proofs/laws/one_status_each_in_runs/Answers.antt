use Rattle.dm_machine.proofs.StatusesInRuns.{one_status_in_runs}
use Rattle.dm_machine.proofs.Counting.{counts}
use Rattle.dm_machine.proofs.laws.one_status_each_in_runs.Goals as goal

pub returns-clause-runs : goal.returns-clause-runs
returns-clause-runs c = one_status_in_runs

pub returns-clause-counted : goal.returns-clause-counted
returns-clause-counted c = counts
