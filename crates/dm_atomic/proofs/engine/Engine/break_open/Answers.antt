use Rattle.dm_objects.specs.declared.object.Object.TheVariants.{Nothing}
use Rattle.dm_atomic.specs.Engine.{state_of}
use Rattle.dm_atomic.proofs.GivenUps.{broken_gives}
use Rattle.dm_atomic.proofs.Held.{holds_then, holds_next}
use Rattle.dm_atomic.proofs.engine.Engine.break_open.Goals as goal

pub returns-clause-gives : goal.returns-clause-gives
returns-clause-gives c =
    broken_gives c.args.self.now c.quiet.new.self (state_of c.roll_back.new.self) c.in_ok-lost.lost c.args.out.now
    c.put_notice.new.out c.put_parts_undone.new.out c.requires.is_open c.in_ok-lost.ensures.ok
    c.in_ok-lost.ensures.target c.in_ok-put_notice.ensures.ok c.in_ok-put_parts_undone.ensures.ok
    c.roll_back.ensures.state

pub returns-clause-marks : goal.returns-clause-marks
returns-clause-marks c =
    let e = c.args.self.now in
    holds_then e (record e { inbox = c.quiet.new.self }) c.roll_back.new.self
    (holds_next e c.quiet.new.self Nothing c.in_ok-lost.ensures.ok) c.roll_back.ensures.marks
