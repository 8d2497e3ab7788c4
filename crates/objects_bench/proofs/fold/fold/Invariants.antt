use Rattle.std.proofs.Common.{◌≡◌, drop}
use Rattle.objects_bench.specs.Folding.{folded}
use Rattle.objects_bench.proofs.fold.fold.Given as goal

abbrev pub invariant-loop-byte : goal.invariant-loop-byte
invariant-loop-byte l = folded 0 l.bytes ≡ folded l.sum (drop l.byte-index l.bytes)
