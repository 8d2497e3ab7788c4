use Rattle.dm_objects.specs.declared.object.Object.TheVariants.{Nothing}
use Rattle.dm_atomic.proofs.Held.{holds_then, holds_next}
use Rattle.dm_atomic.proofs.engine.Engine.abandon.Goals as goal

pub returns-then-self-clause-marks : goal.returns-then-self-clause-marks
returns-then-self-clause-marks c =
    let e = c.args.self.now in
    holds_then e (record e { inbox = c.clear.new.self }) c.roll_back.new.self
    (holds_next e c.clear.new.self Nothing c.clear.ensures) c.roll_back.ensures.marks
