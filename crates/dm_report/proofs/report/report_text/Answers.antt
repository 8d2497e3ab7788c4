use Rattle.dm_report.specs.Kept.{known_of}
use Rattle.dm_report.proofs.ReportLemmas.{reported}
use Rattle.dm_report.proofs.report.report_text.Goals as goal

pub returns : goal.returns
returns c = λ v told alerts ran.
    reported v (known_of c.args.kept.now) c.args.ran _ _ _ _ _ told alerts ran
    (rw c.new-out.ensures at c.in_ok-put_told.ensures) (rw c.as_slice-2.ensures at c.in_ok-put_alerts.ensures)
    c.in_ok-extend.ensures.ok
    (rw c.all_coded.ensures at c.state_word.ensures) (rw c.in_ok-extend-2.ensures.ok at c.in_ok-extend-3.ensures.ok)
