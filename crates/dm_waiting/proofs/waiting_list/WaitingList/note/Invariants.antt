use Rattle.std.proofs.Common.{◌≡◌, ◌++◌, length, take}
use Rattle.dm_waiting.proofs.Out.{Rest}
use Rattle.dm_waiting.proofs.waiting_list.WaitingList.note.Given as goal

abbrev pub invariant-loop-at : goal.invariant-loop-at
invariant-loop-at l = record {
  front : take (length l.fn.out) l.out ≡ l.fn.out;
  whole :
      l.out ++ Rest l.msg l.filled.whole l.filled.cut l.self-inside.queue l.self-inside.loads.items l.at
      ≡ l.fn.out ++ Rest l.msg l.filled.whole l.filled.cut l.self-inside.queue l.self-inside.loads.items 0;
}
