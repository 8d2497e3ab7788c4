use Rattle.std.proofs.Common.{subst, [], Some}
use Rattle.std.proofs.lemmas.List.{take_rest}
use Rattle.dm_atomic.specs.Run.{fails, opened}
use Rattle.dm_atomic.specs.Engine.{state_of, running, Gives}
use Rattle.dm_atomic.proofs.Closings.{group_is_open, failed_in_group, done_in_group}
use Rattle.dm_atomic.proofs.engine.Engine.run_open.Goals as goal

pub returns-in_ok-fail-in-Some-clause-gives : goal.returns-in_ok-fail-in-Some-clause-gives
returns-in_ok-fail-in-Some-clause-gives c =
    let e = c.args.self.now in
    let m = c.try_all.new.self in
    let t = rw c.in-Some.is at c.in_ok-failed.ensures.tried in
    failed_in_group (running e c.args.caller.now) (state_of e) (state_of m) (state_of c.fail.new.self) _
    c.args.post c.args.tasks.now c.try_all.new.tasks c.try_all.new.done c.in-Some.failed c.in-Some.ran c.args.out.now
    c.try_all.new.out c.fail.new.out (group_is_open e c.requires.is_open) t
    (subst
    (λ u. Gives
    (fails (opened (state_of m)) c.args.post (record {
      state = state_of m;
      notices = [];
      done = c.try_all.new.done;
      failed = Some c.in-Some.failed;
      unrun = u;
    }) c.in-Some.failed)
    (state_of c.fail.new.self) c.try_all.new.out c.fail.new.out)
    (take_rest c.try_all.new.tasks c.in-Some.ran) c.in_ok-fail-in-Some.ensures.gives)

pub returns-in_ok-close-in-None-clause-gives : goal.returns-in_ok-close-in-None-clause-gives
returns-in_ok-close-in-None-clause-gives c =
    let e = c.args.self.now in
    let t = rw c.in-None.is at c.in_ok-failed.ensures.tried in
    done_in_group (running e c.args.caller.now) (state_of e) (state_of c.try_all.new.self) (state_of c.close.new.self)
    _ c.args.post c.args.tasks.now c.try_all.new.tasks c.try_all.new.done c.args.out.now c.try_all.new.out
    c.close.new.out
    (group_is_open e c.requires.is_open) t c.in_ok-close-in-None.ensures.gives
