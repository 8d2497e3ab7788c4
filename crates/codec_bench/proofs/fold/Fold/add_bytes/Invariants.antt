use Rattle.std.proofs.Common.{◌≡◌, drop}
use Rattle.codec_bench.specs.Folding.{with_bytes}
use Rattle.codec_bench.proofs.fold.Fold.add_bytes.Given as goal

abbrev pub invariant-loop-byte : goal.invariant-loop-byte
invariant-loop-byte l = with_bytes l.fn.self l.bytes ≡ with_bytes l.self (drop l.byte-index l.bytes)
