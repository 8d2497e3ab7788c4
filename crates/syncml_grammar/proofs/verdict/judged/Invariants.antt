use Rattle.std.proofs.Common.{◌≡◌, drop, None}
use Rattle.syncml_grammar.specs.Refusals.{verdict_of, verdict_from}
use Rattle.syncml_grammar.proofs.verdict.judged.Given as goal

abbrev pub invariant-loop-at : goal.invariant-loop-at
invariant-loop-at l =
    (verdict_of l.tokens ≡ verdict_from l.at l.builder.frames (drop l.at l.tokens)) × (l.builder.stopped ≡ None)
