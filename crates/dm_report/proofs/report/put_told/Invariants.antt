use Rattle.std.proofs.Common.{◌≡◌, ◌+◌, ◌++◌, drop}
use Rattle.dm_service.specs.Report.{told_text}
use Rattle.dm_report.specs.Kept.{told_from}
use Rattle.dm_report.proofs.report.put_told.Given as goal

abbrev pub invariant-loop-place : goal.invariant-loop-place
invariant-loop-place l =
    l.out ++ told_text (l.place + 1) (told_from l.place (drop l.place l.kept.codes) l.kept.found)
    ≡ l.fn.out ++ told_text 1 (told_from 0 l.kept.codes l.kept.found)
