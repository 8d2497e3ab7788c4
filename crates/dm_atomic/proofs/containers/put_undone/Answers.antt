use Rattle.std.proofs.Common.{rules, ◌∷◌, ◌+◌, [], map, drop, refl}
use Rattle.dm_atomic.specs.Made.{Status, all_reported}
use Rattle.dm_atomic.specs.Run.{undone}
use Rattle.dm_atomic.proofs.Telling.{telling_goes_on, telling_ends, telling_stops}
use Rattle.dm_atomic.proofs.MadeAhead.{next_undone, none_ahead}
use Rattle.dm_atomic.proofs.containers.put_undone.Goals as goal

pub returns-in_err-put_status-clause-err : goal.returns-in_err-put_status-clause-err
returns-in_err-put_status-clause-err c =
    let stands = telling_stops c.args.out.now c.loop-report.out c.put_status.new.out
    (all_reported (map undone (drop c.loop-report.report-index c.args.reports.now)))
    (all_reported (map undone c.args.reports.now))
    c.loop-report.invariant c.in_err-put_status.ensures.err in search rules

pub loop-report-preserved : goal.loop-report-preserved
loop-report-preserved c =
    telling_goes_on c.args.out.now c.loop-report.out c.put_status.new.out
    (all_reported (map undone (drop c.loop-report.report-index c.args.reports.now)))
    (Status c.report-item.result.post 216 ∷ [])
    (all_reported (map undone (drop (c.loop-report.report-index + 1) c.args.reports.now)))
    (all_reported (map undone c.args.reports.now))
    c.loop-report.invariant
    (next_undone c.args.reports.now c.as_slice-report-items.result.now c.loop-report.report-index c.report-item.result
    c.as_slice-report-items.ensures c.loop-report-test.true c.report-item.is)
    c.in_ok-put_status.ensures.ok

pub returns-clause-ok : goal.returns-clause-ok
returns-clause-ok c =
    telling_ends c.args.out.now c.loop-report.out
    (all_reported (map undone (drop c.loop-report.report-index c.args.reports.now)))
    (all_reported (map undone c.args.reports.now))
    c.loop-report.invariant
    (none_ahead (λ xs. all_reported (map undone xs)) c.args.reports.now c.as_slice-report-items.result.now
    c.loop-report.report-index c.as_slice-report-items.ensures c.loop-report-test.false refl)
