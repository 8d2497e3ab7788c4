use Rattle.std.proofs.Common.{sym, subst}
use Rattle.dm_tree.specs.Nodes.{IsStamp}
use Rattle.dm_session.proofs.Clients.{clocked_sound}
use Rattle.dm_session.proofs.client.Client.set_clock.Goals as goal

pub invariant_of-self : goal.invariant_of-self
invariant_of-self c =
    clocked_sound c.self.inside.engine c.set_clock.new.self c.self.inside.queue c.self.inside.rest c.self.invariant
    c.set_clock.ensures.sound c.set_clock.ensures.max_obj c.set_clock.ensures.whole c.set_clock.ensures.past
    (c.set_clock.ensures.marks.parked c.self.invariant.none_left)
    (subst IsStamp (sym c.set_clock.ensures.clock) c.stamped.ensures)
