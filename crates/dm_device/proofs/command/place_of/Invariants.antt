use Rattle.std.proofs.Common.{◌≡◌, drop}
use Rattle.dm_replay.specs.Events.{place_from}
use Rattle.dm_replay.specs.Trace.{servers_of}
use Rattle.dm_device.proofs.command.place_of.Given as goal

abbrev pub invariant-loop-at : goal.invariant-loop-at
invariant-loop-at l =
    place_from 0 (servers_of l.accounts) l.server ≡ place_from l.at (servers_of (drop l.at l.accounts)) l.server
