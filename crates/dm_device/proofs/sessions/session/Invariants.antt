use Rattle.std.proofs.Common.{◌≡◌, ◌≤◌, ◌-◌, ◌+◌, ◌*◌, length}
use Rattle.dm_outside.specs.Calls.{IsIdle}
use Rattle.dm_device.specs.Sessions.{IsWithinLimits}
use Rattle.dm_device.proofs.Talking.{SoFar}
use Rattle.dm_device.proofs.sessions.session.Given as goal

abbrev pub invariant-exchanges : goal.invariant-exchanges
invariant-exchanges g l = record {
  idle : IsIdle (g.D.Dialer.told l.dialer);
  going : IsWithinLimits l.tally;
  so_far : SoFar (g.D.Dialer.told l.fn.dialer) (g.D.Dialer.told l.dialer) (g.N.Nonces.left l.fn.nonces)
      (g.N.Nonces.left l.nonces) l.fn.client.machine l.client.machine l.tally l.address l.path;
  accounts : length l.client.machine.accounts ≡ length l.fn.client.machine.accounts;
  count : g.D.Dialer.faults l.fn.dialer ≤ g.D.Dialer.faults l.dialer;
}

abbrev pub decreases-exchanges : goal.decreases-exchanges
decreases-exchanges g l = 500000 - (5 * l.tally.accepted + l.tally.lost)
