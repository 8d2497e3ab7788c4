use Rattle.std.proofs.Common.{◌≡◌, drop}
use Rattle.syncml_shape.specs.Rows.{next_row}
use Rattle.syncml_shape.proofs.progress.row_of.Given as goal

abbrev pub invariant-loop-at : goal.invariant-loop-at
invariant-loop-at l = next_row l.fn.came l.rows l.element ≡ next_row l.came_here (drop l.at l.rows) l.element
