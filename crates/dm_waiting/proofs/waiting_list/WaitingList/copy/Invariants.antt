use Rattle.std.proofs.Common.{◌≡◌, take}
use Rattle.dm_waiting.proofs.waiting_list.WaitingList.copy.Given as goal

abbrev pub invariant-loop-at : goal.invariant-loop-at
invariant-loop-at l = l.loads.items ≡ take l.at l.self-inside.loads.items
