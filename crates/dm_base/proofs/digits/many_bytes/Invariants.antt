use Rattle.std.proofs.Common.{◌≡◌, ◌%◌, length, Some}
use Rattle.dm_base.proofs.HexReading.{read, joined}
use Rattle.dm_base.proofs.digits.many_bytes.Given as goal

abbrev pub invariant-loop-rest : goal.invariant-loop-rest
invariant-loop-rest l = record {
  even : length l.rest % 2 ≡ 0;
  so_far : joined (Some l.out.items) (read l.rest) ≡ read l.text;
}

abbrev pub decreases-loop-rest : goal.decreases-loop-rest
decreases-loop-rest l = length l.rest
