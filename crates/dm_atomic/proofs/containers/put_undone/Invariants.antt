use Rattle.std.proofs.Common.{drop, map}
use Rattle.dm_atomic.specs.Made.{all_reported}
use Rattle.dm_atomic.specs.Run.{undone}
use Rattle.dm_atomic.proofs.Telling.{IsTelling}
use Rattle.dm_atomic.proofs.containers.put_undone.Given as goal

abbrev pub invariant-loop-report : goal.invariant-loop-report
invariant-loop-report l =
    IsTelling l.fn.out l.out (all_reported (map undone (drop l.report-index l.reports)))
    (all_reported (map undone l.reports))
