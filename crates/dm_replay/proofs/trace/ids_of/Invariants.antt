use Rattle.std.proofs.Common.{◌≡◌, take}
use Rattle.dm_replay.specs.Trace.{servers_of}
use Rattle.dm_replay.proofs.trace.ids_of.Given as goal

abbrev pub invariant-loop-at : goal.invariant-loop-at
invariant-loop-at l = l.ids ≡ servers_of (take l.at l.accounts)
