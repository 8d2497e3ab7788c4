use Rattle.std.proofs.Common.{◌≡◌, take}
use Rattle.dm_pack.proofs.queue.Queue.copy.Given as goal

abbrev pub invariant-loop-at : goal.invariant-loop-at
invariant-loop-at l = l.entries.items ≡ take l.at l.self-inside.entries.items
