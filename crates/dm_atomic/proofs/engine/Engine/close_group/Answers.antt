use Rattle.std.proofs.Common.{ap}
use Rattle.dm_atomic.specs.declared.engine.Engine.{Engine}
use Rattle.dm_atomic.proofs.Engines.{closed_state, closed_sound}
use Rattle.dm_atomic.proofs.Held.{holds_ended}
use Rattle.dm_atomic.proofs.engine.Engine.close_group.Goals as goal

pub returns-clause-state : goal.returns-clause-state
returns-clause-state c = closed_state c.args.self.now c.end_group.new.self c.end_group.ensures.same

pub returns-clause-inbox : goal.returns-clause-inbox
returns-clause-inbox c = ap (λ (e : Engine). e.inbox) c.end_group.ensures.same

pub returns-clause-clock : goal.returns-clause-clock
returns-clause-clock c = ap (λ (e : Engine). e.tree.clock) c.end_group.ensures.same

pub returns-clause-marks : goal.returns-clause-marks
returns-clause-marks c =
    holds_ended c.args.self.now c.end_group.new.self c.end_group.ensures.same c.end_group.ensures.ended

pub returns-clause-sound : goal.returns-clause-sound
returns-clause-sound c =
    closed_sound c.args.self.now c.end_group.new.self c.end_group.ensures.same c.end_group.ensures.empty
    c.requires.sound
