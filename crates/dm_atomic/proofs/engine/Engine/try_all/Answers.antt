use Rattle.std.proofs.Common.{rules, ◌∙◌, ◌+◌, sym, ap, drop, get_or}
use Rattle.std.proofs.Math.ListN.{set, length-set}
use Rattle.dm_atomic.specs.Run.{tried}
use Rattle.dm_atomic.specs.Engine.{state_of, running}
use Rattle.dm_atomic.proofs.Engines.{only_then}
use Rattle.dm_atomic.proofs.Held.{holds_then}
use Rattle.dm_atomic.proofs.Staying.{tasks_go_on}
use Rattle.dm_atomic.proofs.TasksAhead.{same_next, same_rest}
use Rattle.dm_atomic.proofs.Tried.{stopped_left, ended_left}
use Rattle.dm_atomic.proofs.Tried.{runs_still, trying_breaks, trying_is_cut, trying_goes_on, trying_stops, trying_ends}
use Rattle.dm_atomic.proofs.engine.Engine.try_all.Goals as goal

pub returns-in_err-report-clause-err : goal.returns-in_err-report-clause-err
returns-in_err-report-clause-err c =
    let e = c.args.self.now in
    let stands = trying_breaks (running e c.args.caller.now) (state_of e) (state_of c.loop-place.self) c.args.tasks.now
    (drop c.loop-place.place c.args.tasks.now) c.loop-place.done c.args.out.now c.loop-place.out c.one_step.new.out
    c.loop-place.invariant.trying c.in_err-report.ensures.err in search rules

pub returns-then-not-is_success-clause-tried : goal.returns-then-not-is_success-clause-tried
returns-then-not-is_success-clause-tried c =
    let e = c.args.self.now in
    let m = c.loop-place.self in
    let next = state_of c.one_step.new.self in
    let t = get_or c.loop-place.tasks c.loop-place.place c.index-tasks-place.result in
    let report = c.in_ok-report.report in
    let left = set c.loop-place.tasks c.loop-place.place c.one_step.new.task in
    stopped_left (tried (running e c.args.caller.now) (state_of e) c.args.tasks.now) next c.loop-place.done
    c.args.tasks.now left report (c.loop-place.place + 1) c.args.out.now c.one_step.new.out
    (length-set c.loop-place.tasks c.loop-place.place c.one_step.new.task ∙ c.loop-place.invariant.long)
    (same_rest c.loop-place.tasks c.args.tasks.now c.loop-place.place c.one_step.new.task c.loop-place.invariant.left)
    (trying_stops (running e c.args.caller.now) (state_of e) (state_of m) next c.args.tasks.now c.loop-place.place t
    report c.loop-place.done c.args.out.now c.loop-place.out c.one_step.new.out c.loop-place.invariant.trying
    c.loop-place-test.true
    (same_next c.loop-place.tasks c.args.tasks.now c.loop-place.place t c.loop-place.invariant.left
    (ap (get_or c.loop-place.tasks c.loop-place.place) c.index-tasks-place.is))
    (runs_still e m c.args.caller.now (state_of m) next t report c.loop-place.out c.one_step.new.out
    c.loop-place.invariant.only c.in_ok-report.ensures.ok) (sym c.is_success.ensures ∙ c.if-not-is_success.true))

pub returns-in_err-push-clause-err : goal.returns-in_err-push-clause-err
returns-in_err-push-clause-err c =
    let e = c.args.self.now in
    let m = c.loop-place.self in
    let next = state_of c.one_step.new.self in
    let t = get_or c.loop-place.tasks c.loop-place.place c.index-tasks-place.result in
    let report = c.in_ok-report.report in
    let stands = trying_is_cut (running e c.args.caller.now) (state_of e) (state_of m) next c.args.tasks.now
    (drop c.loop-place.place c.args.tasks.now) t report c.loop-place.done c.args.out.now c.loop-place.out
    c.one_step.new.out c.loop-place.invariant.trying
    (runs_still e m c.args.caller.now (state_of m) next t report c.loop-place.out c.one_step.new.out
    c.loop-place.invariant.only c.in_ok-report.ensures.ok) in search rules

pub loop-place-preserved : goal.loop-place-preserved
loop-place-preserved c =
    let e = c.args.self.now in
    let m = c.loop-place.self in
    let f = c.one_step.new.self in
    let t = get_or c.loop-place.tasks c.loop-place.place c.index-tasks-place.result in
    let report = c.in_ok-report.report in
    let is = same_next c.loop-place.tasks c.args.tasks.now c.loop-place.place t c.loop-place.invariant.left
    (ap (get_or c.loop-place.tasks c.loop-place.place) c.index-tasks-place.is) in
    record {
      trying = trying_goes_on (running e c.args.caller.now) (state_of e) (state_of m) (state_of f) c.args.tasks.now
          c.loop-place.place t report c.loop-place.done c.push.new.self c.args.out.now c.loop-place.out
          c.one_step.new.out c.loop-place.invariant.trying c.loop-place-test.true is
          (runs_still e m c.args.caller.now (state_of m) (state_of f) t report c.loop-place.out c.one_step.new.out
          c.loop-place.invariant.only c.in_ok-report.ensures.ok) (sym c.is_success.ensures ∙ c.if-not-is_success.false)
          c.in_ok-push.ensures.ok;
      left =
          same_rest c.loop-place.tasks c.args.tasks.now c.loop-place.place c.one_step.new.task
          c.loop-place.invariant.left;
      long =
          length-set c.loop-place.tasks c.loop-place.place c.one_step.new.task ∙ c.loop-place.invariant.long;
      only = only_then e m f c.loop-place.invariant.only c.one_step.ensures.only;
      ids = tasks_go_on e m f c.args.tasks.now c.loop-place.place t c.loop-place-test.true is
          c.loop-place.invariant.ids c.one_step.ensures.ids;
      marks = holds_then e m f c.loop-place.invariant.marks c.one_step.ensures.marks;
      sound = c.one_step.ensures.sound;
    }

pub returns-clause-tried : goal.returns-clause-tried
returns-clause-tried c =
    let e = c.args.self.now in
    let r = running e c.args.caller.now in
    ended_left (tried r (state_of e) c.args.tasks.now) (state_of c.loop-place.self) c.loop-place.done c.args.tasks.now
    c.loop-place.tasks c.args.out.now c.loop-place.out
    (trying_ends r (state_of e) (state_of c.loop-place.self) c.args.tasks.now c.loop-place.place c.loop-place.done
    c.args.out.now c.loop-place.out c.loop-place.invariant.trying c.loop-place-test.false)

pub returns-in_err-report-clause-only : goal.returns-in_err-report-clause-only
returns-in_err-report-clause-only c =
    only_then c.args.self.now c.loop-place.self c.one_step.new.self c.loop-place.invariant.only c.one_step.ensures.only

pub returns-in_err-report-clause-ids : goal.returns-in_err-report-clause-ids
returns-in_err-report-clause-ids c =
    let t = get_or c.loop-place.tasks c.loop-place.place c.index-tasks-place.result in
    tasks_go_on c.args.self.now c.loop-place.self c.one_step.new.self c.args.tasks.now c.loop-place.place t
    c.loop-place-test.true
    (same_next c.loop-place.tasks c.args.tasks.now c.loop-place.place t c.loop-place.invariant.left
    (ap (get_or c.loop-place.tasks c.loop-place.place) c.index-tasks-place.is))
    c.loop-place.invariant.ids c.one_step.ensures.ids

pub returns-then-not-is_success-clause-ids : goal.returns-then-not-is_success-clause-ids
returns-then-not-is_success-clause-ids c =
    let t = get_or c.loop-place.tasks c.loop-place.place c.index-tasks-place.result in
    tasks_go_on c.args.self.now c.loop-place.self c.one_step.new.self c.args.tasks.now c.loop-place.place t
    c.loop-place-test.true
    (same_next c.loop-place.tasks c.args.tasks.now c.loop-place.place t c.loop-place.invariant.left
    (ap (get_or c.loop-place.tasks c.loop-place.place) c.index-tasks-place.is))
    c.loop-place.invariant.ids c.one_step.ensures.ids

pub returns-in_err-push-clause-ids : goal.returns-in_err-push-clause-ids
returns-in_err-push-clause-ids c =
    let t = get_or c.loop-place.tasks c.loop-place.place c.index-tasks-place.result in
    tasks_go_on c.args.self.now c.loop-place.self c.one_step.new.self c.args.tasks.now c.loop-place.place t
    c.loop-place-test.true
    (same_next c.loop-place.tasks c.args.tasks.now c.loop-place.place t c.loop-place.invariant.left
    (ap (get_or c.loop-place.tasks c.loop-place.place) c.index-tasks-place.is))
    c.loop-place.invariant.ids c.one_step.ensures.ids

pub returns-then-not-is_success-clause-only : goal.returns-then-not-is_success-clause-only
returns-then-not-is_success-clause-only c =
    only_then c.args.self.now c.loop-place.self c.one_step.new.self c.loop-place.invariant.only c.one_step.ensures.only

pub returns-in_err-push-clause-only : goal.returns-in_err-push-clause-only
returns-in_err-push-clause-only c =
    only_then c.args.self.now c.loop-place.self c.one_step.new.self c.loop-place.invariant.only c.one_step.ensures.only
