use Rattle.std.proofs.Common.{◌≡◌, ◌==◌, ◌+◌, ◌-◌, ◌++◌, true, length, take}
use Rattle.dm_waiting.specs.Held.{row}
use Rattle.dm_waiting.proofs.holding.push_row.Given as goal

abbrev pub invariant-loop-at : goal.invariant-loop-at
invariant-loop-at l = record {
  front : take (length l.fn.out) l.out ≡ l.fn.out;
  whole : l.out ++ row l.part (l.at == 0) l.msg (l.command + l.at) (l.carried.first + l.at) (l.carried.count - l.at)
      ≡ l.fn.out ++ row l.part true l.msg l.command l.carried.first l.carried.count;
}
