use Rattle.std.proofs.Common.{◌≡◌, drop}
use Rattle.syncml_shape.specs.Rows.{meta_place}
use Rattle.syncml_shape.proofs.progress.meta_row_of.Given as goal

abbrev pub invariant-loop-at : goal.invariant-loop-at
invariant-loop-at l =
    meta_place 0 l.rows l.came l.element ≡ meta_place l.at (drop l.at l.rows) (drop l.at l.came) l.element
