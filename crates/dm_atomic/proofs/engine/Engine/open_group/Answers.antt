use Rattle.dm_atomic.proofs.Engines.{opened_sound}
use Rattle.dm_atomic.proofs.engine.Engine.open_group.Goals as goal

pub returns-in_ok-reserve-2-clause-sound : goal.returns-in_ok-reserve-2-clause-sound
returns-in_ok-reserve-2-clause-sound c =
    let e = c.args.self.now in
    opened_sound e c.reserve.new.self _ c.mark-self.result c.new.result c.requires.sound
    c.reserve.ensures.entries c.in_ok-reserve.ensures.ok c.in_ok-reserve-2.ensures.ok c.mark-self.ensures.place
    (c.mark-self.ensures.there e.tree.rows)
