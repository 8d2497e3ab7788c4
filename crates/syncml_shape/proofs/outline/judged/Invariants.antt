use Rattle.std.proofs.Common.{◌≡◌, drop}
use Rattle.syncml_shape.specs.Outline.{verdict_of, verdict_from}
use Rattle.syncml_shape.proofs.outline.judged.Given as goal

abbrev pub invariant-loop-at : goal.invariant-loop-at
invariant-loop-at l = verdict_of l.tokens ≡ verdict_from l.at l.outline (drop l.at l.tokens)
