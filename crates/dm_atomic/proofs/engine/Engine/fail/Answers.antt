use Rattle.dm_atomic.specs.Engine.{state_of}
use Rattle.dm_atomic.proofs.Closings.{fail_gives}
use Rattle.dm_atomic.proofs.Held.{holds_then, holds_objects}
use Rattle.dm_atomic.proofs.engine.Engine.fail.Goals as goal

pub returns-clause-gives : goal.returns-clause-gives
returns-clause-gives c =
    fail_gives c.args.self.now c.skip_left.new.inbox (state_of c.roll_back.new.self) c.args.post.now c.args.done.now
    c.args.failed.now c.args.unrun.now c.args.out.now c.put_parts_undone.new.out c.put_failed.new.out
    c.requires.is_open c.in_ok-put_parts_undone.ensures.ok c.in_ok-put_failed.ensures.ok
    c.in_ok-skip_left.ensures.object c.roll_back.ensures.state

pub returns-clause-marks : goal.returns-clause-marks
returns-clause-marks c =
    let e = c.args.self.now in
    holds_then e (record e { inbox = c.skip_left.new.inbox }) c.roll_back.new.self
    (holds_objects e c.skip_left.new.inbox c.skip_left.ensures.seen) c.roll_back.ensures.marks

pub returns-in_err-skip_left-clause-marks : goal.returns-in_err-skip_left-clause-marks
returns-in_err-skip_left-clause-marks c =
    holds_objects c.args.self.now c.skip_left.new.inbox c.skip_left.ensures.seen
