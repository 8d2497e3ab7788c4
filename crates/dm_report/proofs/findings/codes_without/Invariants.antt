use Rattle.std.proofs.Common.{◌≡◌, ◌++◌, drop}
use Rattle.dm_report.specs.Kept.{codes_without}
use Rattle.dm_report.proofs.findings.codes_without.Given as goal

abbrev pub invariant-loop-place : goal.invariant-loop-place
invariant-loop-place l =
    l.kept ++ codes_without l.first l.count l.place (drop l.place l.codes) ≡ codes_without l.first l.count 0 l.codes
