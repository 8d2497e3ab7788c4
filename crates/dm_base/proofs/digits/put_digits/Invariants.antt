use Rattle.std.proofs.Common.{◌≡◌, ◌++◌, length, take}
use Rattle.hex.specs.Hex.{encode_lower}
use Rattle.dm_base.proofs.digits.put_digits.Given as goal

abbrev pub invariant-loop-rest : goal.invariant-loop-rest
invariant-loop-rest l = record {
  digits : l.out ++ encode_lower l.rest ≡ l.fn.out ++ encode_lower l.bytes;
  front : take (length l.fn.out) l.out ≡ l.fn.out;
}

abbrev pub decreases-loop-rest : goal.decreases-loop-rest
decreases-loop-rest l = length l.rest
