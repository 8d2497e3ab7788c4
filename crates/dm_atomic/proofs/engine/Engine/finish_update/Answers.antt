use Rattle.dm_tree.specs.Rows.{nodes}
use Rattle.dm_atomic.proofs.Results.{finished_state, finished_sound, finished_holds, before_sound, before_holds}
use Rattle.dm_atomic.proofs.UpdateEnds.{runs}
use Rattle.dm_atomic.proofs.engine.Engine.finish_update.Goals as goal

pub end_update-requires-clause-running : goal.end_update-requires-clause-running
end_update-requires-clause-running c = runs (nodes c.args.self.now.tree.rows) c.requires.running

pub returns-in_err-end_update-clause-marks : goal.returns-in_err-end_update-clause-marks
returns-in_err-end_update-clause-marks c =
    before_holds c.args.self.now c.reserve.new.self c.end_update.new.tree c.end_update.new.journal
    c.in_err-end_update.ensures.err c.requires.sound c.reserve.ensures.items

pub returns-in_err-end_update-clause-sound : goal.returns-in_err-end_update-clause-sound
returns-in_err-end_update-clause-sound c =
    before_sound c.args.self.now c.reserve.new.self c.end_update.new.tree c.end_update.new.journal
    c.in_err-end_update.ensures.err c.requires.sound c.end_update.ensures.clock

pub returns-clause-ok : goal.returns-clause-ok
returns-clause-ok c =
    finished_state c.args.self.now c.end_update.new.tree c.end_update.new.journal c.args.ok c.requires.sound
    c.in_ok-end_update.ensures.notes c.in_ok-end_update.ensures.nodes c.put_started.new.self c.put_started.ensures.same

pub returns-clause-marks : goal.returns-clause-marks
returns-clause-marks c =
    finished_holds c.args.self.now c.end_update.new.tree c.end_update.new.journal c.args.ok c.requires.sound
    c.in_ok-end_update.ensures.notes c.in_ok-end_update.ensures.nodes c.put_started.new.self c.reserve.new.self
    c.reserve.ensures.items c.put_started.ensures.same c.put_started.ensures.starts

pub returns-clause-sound : goal.returns-clause-sound
returns-clause-sound c =
    finished_sound c.args.self.now c.end_update.new.tree c.end_update.new.journal c.args.ok c.requires.sound
    c.in_ok-end_update.ensures.notes c.in_ok-end_update.ensures.nodes c.put_started.new.self c.put_started.ensures.same
    c.requires.running c.end_update.ensures.clock
