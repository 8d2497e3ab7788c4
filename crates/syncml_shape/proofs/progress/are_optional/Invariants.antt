use Rattle.std.proofs.Common.{◌≡◌, drop}
use Rattle.syncml_shape.specs.Rows.{all_optional}
use Rattle.syncml_shape.proofs.progress.are_optional.Given as goal

abbrev pub invariant-loop-row : goal.invariant-loop-row
invariant-loop-row l = all_optional l.rows ≡ all_optional (drop l.row-index l.rows)
