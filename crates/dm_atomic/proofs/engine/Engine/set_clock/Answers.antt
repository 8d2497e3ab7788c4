use Rattle.std.proofs.Common.{ap}
use Rattle.dm_tree.specs.Rows.{Tree}
use Rattle.dm_atomic.specs.Marks.{whole_of, past_of}
use Rattle.dm_atomic.proofs.Engines.{clocked_sound}
use Rattle.dm_atomic.proofs.Held.{holds_clocked}
use Rattle.dm_atomic.proofs.engine.Engine.set_clock.Goals as goal

pub returns-clause-whole : goal.returns-clause-whole
returns-clause-whole c = ap (λ (t : Tree). whole_of (record c.args.self.now { tree = t })) c.set_clock.ensures

pub returns-clause-past : goal.returns-clause-past
returns-clause-past c = ap (λ (t : Tree). past_of (record c.args.self.now { tree = t })) c.set_clock.ensures

pub returns-clause-marks : goal.returns-clause-marks
returns-clause-marks c = holds_clocked c.args.self.now c.set_clock.new.self c.args.now c.set_clock.ensures

pub returns-clause-sound : goal.returns-clause-sound
returns-clause-sound c =
    clocked_sound c.args.self.now c.set_clock.new.self c.args.now c.requires.sound c.set_clock.ensures
