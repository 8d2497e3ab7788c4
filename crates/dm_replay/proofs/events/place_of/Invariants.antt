use Rattle.std.proofs.Common.{◌≡◌, drop}
use Rattle.dm_replay.specs.Events.{place_from}
use Rattle.dm_replay.proofs.events.place_of.Given as goal

abbrev pub invariant-loop-at : goal.invariant-loop-at
invariant-loop-at l = place_from 0 l.ids l.server ≡ place_from l.at (drop l.at l.ids) l.server
