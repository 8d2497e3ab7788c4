use Rattle.std.proofs.Common.{◌≡◌, ◌+◌, drop}
use Rattle.syncml_shape.specs.Places.{place_in}
use Rattle.syncml_shape.proofs.place.place_among.Given as goal

abbrev pub invariant-loop-at : goal.invariant-loop-at
invariant-loop-at l = place_in 1 l.rows l.child ≡ place_in (l.at + 1) (drop l.at l.rows) l.child
