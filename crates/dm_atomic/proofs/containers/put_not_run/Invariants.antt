use Rattle.std.proofs.Common.{drop, map}
use Rattle.dm_atomic.specs.Made.{all_reported}
use Rattle.dm_atomic.specs.Run.{not_run}
use Rattle.dm_atomic.proofs.Telling.{IsTelling}
use Rattle.dm_atomic.proofs.containers.put_not_run.Given as goal

abbrev pub invariant-loop-task : goal.invariant-loop-task
invariant-loop-task l =
    IsTelling l.fn.out l.out (all_reported (map not_run (drop l.task-index l.tasks)))
    (all_reported (map not_run l.tasks))
