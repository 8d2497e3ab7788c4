use Rattle.std.proofs.Common.{◌-◌, ◌∙◌, ap, length}
use Rattle.dm_atomic.specs.declared.engine.Engine.{Engine}
use Rattle.dm_atomic.proofs.Engines.{rolled_state, rolled_sound}
use Rattle.dm_atomic.proofs.Held.{journal-rolled, holds_journal, holds_ended, holds_then}
use Rattle.dm_atomic.proofs.engine.Engine.roll_back.Goals as goal

pub returns-clause-state : goal.returns-clause-state
returns-clause-state c =
    rolled_state c.args.self.now c.end_group.new.self c.roll_back.new.tree c.roll_back.new.self c.requires.is_open
    c.roll_back.ensures.there c.end_group.ensures.same

pub returns-clause-inbox : goal.returns-clause-inbox
returns-clause-inbox c = ap (λ (e : Engine). e.inbox) c.end_group.ensures.same

pub returns-clause-clock : goal.returns-clause-clock
returns-clause-clock c = ap (λ (e : Engine). e.tree.clock) c.end_group.ensures.same ∙ c.roll_back.ensures.clock

pub returns-clause-marks : goal.returns-clause-marks
returns-clause-marks c =
    let e = c.args.self.now in
    let m = record e { tree = c.roll_back.new.tree; journal = c.roll_back.new.self } in
    holds_then e m c.end_group.new.self
    (holds_journal e c.roll_back.new.tree c.roll_back.new.self
    (journal-rolled e.journal c.roll_back.new.self e.tree.rows c.roll_back.new.tree.rows
    (length e.journal.entries - e.mark) c.roll_back.ensures.recalls c.roll_back.ensures.entries
    c.roll_back.ensures.room c.roll_back.ensures.parked))
    (holds_ended m c.end_group.new.self c.end_group.ensures.same c.end_group.ensures.ended)

pub returns-clause-sound : goal.returns-clause-sound
returns-clause-sound c =
    let e = c.args.self.now in
    rolled_sound e c.end_group.new.self c.roll_back.new.tree c.roll_back.new.self (length e.journal.entries - e.mark)
    c.requires.is_open c.requires.sound c.roll_back.ensures.sound c.roll_back.ensures.there c.roll_back.ensures.entries
    c.roll_back.ensures.room c.end_group.ensures.same c.end_group.ensures.empty
