use Rattle.std.proofs.Common.{◌≡◌, ◌++◌, drop}
use Rattle.dm_report.specs.Kept.{found_without}
use Rattle.dm_report.proofs.findings.found_without.Given as goal

abbrev pub invariant-loop-value : goal.invariant-loop-value
invariant-loop-value l =
    l.kept ++ found_without l.first l.count (drop l.value-index l.found) ≡ found_without l.first l.count l.found
