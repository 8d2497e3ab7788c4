use Rattle.std.proofs.Common.{rules, ◌+◌, drop, refl}
use Rattle.dm_atomic.specs.Made.{reported, all_reported}
use Rattle.dm_atomic.proofs.Telling.{telling_goes_on, telling_ends, telling_breaks}
use Rattle.dm_atomic.proofs.MadeAhead.{next_report, none_ahead}
use Rattle.dm_atomic.proofs.entries.put_reports.Goals as goal

pub returns-in_err-put_report-clause-err : goal.returns-in_err-put_report-clause-err
returns-in_err-put_report-clause-err c =
    let stands = telling_breaks c.args.out.now c.loop-report.out c.put_report.new.out
    (all_reported (drop c.loop-report.report-index c.args.reports.now)) (all_reported c.args.reports.now)
    c.loop-report.invariant c.in_err-put_report.ensures.err in search rules

pub loop-report-preserved : goal.loop-report-preserved
loop-report-preserved c =
    telling_goes_on c.args.out.now c.loop-report.out c.put_report.new.out
    (all_reported (drop c.loop-report.report-index c.args.reports.now))
    (reported c.report-item.result)
    (all_reported (drop (c.loop-report.report-index + 1) c.args.reports.now))
    (all_reported c.args.reports.now)
    c.loop-report.invariant
    (next_report c.args.reports.now c.as_slice-report-items.result.now c.loop-report.report-index c.report-item.result
    c.as_slice-report-items.ensures c.loop-report-test.true c.report-item.is)
    c.in_ok-put_report.ensures.ok

pub returns-clause-ok : goal.returns-clause-ok
returns-clause-ok c =
    telling_ends c.args.out.now c.loop-report.out
    (all_reported (drop c.loop-report.report-index c.args.reports.now)) (all_reported c.args.reports.now)
    c.loop-report.invariant
    (none_ahead all_reported c.args.reports.now c.as_slice-report-items.result.now c.loop-report.report-index
    c.as_slice-report-items.ensures c.loop-report-test.false refl)
