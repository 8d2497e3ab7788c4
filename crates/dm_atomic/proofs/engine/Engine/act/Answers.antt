use Rattle.dm_atomic.proofs.Engines.{only-acted, acted_notes, acted_sound}
use Rattle.dm_atomic.proofs.Held.{holds_noted}
use Rattle.dm_atomic.proofs.engine.Engine.act.Goals as goal

pub returns-clause-only : goal.returns-clause-only
returns-clause-only c =
    let e = c.args.self.now in
    only-acted e c.act.new.tree c.act.new.journal
    (acted_notes c.act.result e.journal c.act.new.journal e.tree c.act.new.tree c.act.ensures.notes c.act.ensures.err)
    c.act.ensures.clock

pub returns-clause-marks : goal.returns-clause-marks
returns-clause-marks c =
    let e = c.args.self.now in
    holds_noted e c.act.new.tree c.act.new.journal c.requires.sound
    (acted_notes c.act.result e.journal c.act.new.journal e.tree c.act.new.tree c.act.ensures.notes c.act.ensures.err)

pub returns-clause-sound : goal.returns-clause-sound
returns-clause-sound c =
    let e = c.args.self.now in
    acted_sound c.act.result e c.act.new.tree c.act.new.journal c.args.caller.now c.args.step.now c.requires.sound
    c.root.ensures.well_formed c.act.ensures.done
    (only-acted e c.act.new.tree c.act.new.journal
    (acted_notes c.act.result e.journal c.act.new.journal e.tree c.act.new.tree c.act.ensures.notes c.act.ensures.err)
    c.act.ensures.clock) c.act.ensures.err c.act.ensures.clock
