use Rattle.std.proofs.Common.{drop}
use Rattle.dm_atomic.specs.Made.{all_reported}
use Rattle.dm_atomic.proofs.Telling.{IsTelling}
use Rattle.dm_atomic.proofs.entries.put_reports.Given as goal

abbrev pub invariant-loop-report : goal.invariant-loop-report
invariant-loop-report l =
    IsTelling l.fn.out l.out (all_reported (drop l.report-index l.reports)) (all_reported l.reports)
