use Rattle.dm_atomic.proofs.Engines.{started_sound, started_only}
use Rattle.dm_atomic.proofs.Held.{holds_then, holds_room, holds_started}
use Rattle.dm_atomic.proofs.engine.Engine.start.Goals as goal

pub returns-in_ok-reserve-clause-only : goal.returns-in_ok-reserve-clause-only
returns-in_ok-reserve-clause-only c = started_only c.args.self.now c.put_started.new.self _ c.put_started.ensures.same

pub returns-in_ok-reserve-clause-marks : goal.returns-in_ok-reserve-clause-marks
returns-in_ok-reserve-clause-marks c =
    let e = c.args.self.now in
    let m = record e { starts = c.reserve.new.self } in
    holds_then e m c.put_started.new.self (holds_room e c.reserve.new.self c.reserve.ensures.items)
    (holds_started m c.put_started.new.self _ c.put_started.ensures.same c.put_started.ensures.starts)

pub returns-in_ok-reserve-clause-sound : goal.returns-in_ok-reserve-clause-sound
returns-in_ok-reserve-clause-sound c =
    started_sound c.args.self.now c.put_started.new.self _ c.requires.sound c.put_started.ensures.same
