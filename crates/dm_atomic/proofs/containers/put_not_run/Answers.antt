use Rattle.std.proofs.Common.{rules, ◌∷◌, ◌+◌, [], map, drop, refl}
use Rattle.dm_atomic.specs.Made.{Status, all_reported}
use Rattle.dm_atomic.specs.Run.{not_run}
use Rattle.dm_atomic.proofs.Telling.{telling_goes_on, telling_ends, telling_stops}
use Rattle.dm_atomic.proofs.MadeAhead.{next_not_run, none_ahead}
use Rattle.dm_atomic.proofs.containers.put_not_run.Goals as goal

pub returns-in_err-put_status-clause-err : goal.returns-in_err-put_status-clause-err
returns-in_err-put_status-clause-err c =
    let stands = telling_stops c.args.out.now c.loop-task.out c.put_status.new.out
    (all_reported (map not_run (drop c.loop-task.task-index c.args.tasks.now)))
    (all_reported (map not_run c.args.tasks.now))
    c.loop-task.invariant c.in_err-put_status.ensures.err in search rules

pub loop-task-preserved : goal.loop-task-preserved
loop-task-preserved c =
    telling_goes_on c.args.out.now c.loop-task.out c.put_status.new.out
    (all_reported (map not_run (drop c.loop-task.task-index c.args.tasks.now)))
    (Status c.task-item.result.post 215 ∷ [])
    (all_reported (map not_run (drop (c.loop-task.task-index + 1) c.args.tasks.now)))
    (all_reported (map not_run c.args.tasks.now))
    c.loop-task.invariant
    (next_not_run c.args.tasks.now c.args.tasks.now c.loop-task.task-index c.task-item.result refl c.loop-task-test.true
    c.task-item.is)
    c.in_ok-put_status.ensures.ok

pub returns-clause-ok : goal.returns-clause-ok
returns-clause-ok c =
    telling_ends c.args.out.now c.loop-task.out
    (all_reported (map not_run (drop c.loop-task.task-index c.args.tasks.now)))
    (all_reported (map not_run c.args.tasks.now))
    c.loop-task.invariant
    (none_ahead (λ xs. all_reported (map not_run xs)) c.args.tasks.now c.args.tasks.now c.loop-task.task-index refl
    c.loop-task-test.false refl)
