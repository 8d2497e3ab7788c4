use Rattle.std.proofs.Common.{◌≡◌, length}
use Rattle.wbxml_tables.specs.Tables.{are_distinct}
use Rattle.wbxml_tables.proofs.Table.has_distinct_codes.Given as goal

abbrev pub invariant-loop-rows : goal.invariant-loop-rows
invariant-loop-rows g l = are_distinct l.self.rows ≡ are_distinct l.rows

abbrev pub decreases-loop-rows : goal.decreases-loop-rows
decreases-loop-rows g l = length l.rows
