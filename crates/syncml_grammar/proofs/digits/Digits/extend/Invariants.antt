use Rattle.std.proofs.Common.{◌≡◌, drop}
use Rattle.syncml_grammar.specs.Numbers.{digits_after}
use Rattle.syncml_grammar.proofs.digits.Digits.extend.Given as goal

abbrev pub invariant-loop-byte : goal.invariant-loop-byte
invariant-loop-byte l = digits_after l.fn.self l.bytes ≡ digits_after l.digits (drop l.byte-index l.bytes)
