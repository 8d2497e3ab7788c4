use Rattle.std.proofs.Common.{length}
use Rattle.dm_tree.specs.Rows.{path_of}
use Rattle.dm_start.proofs.TextWalk.{IsTextSoFar, left}
use Rattle.dm_start.proofs.texts.tree_text.Given as goal

abbrev pub invariant-loop-at : goal.invariant-loop-at
invariant-loop-at l = IsTextSoFar l.tree.rows l.version (path_of l.tree.rows l.root) l.out l.at

abbrev pub decreases-loop-at : goal.decreases-loop-at
decreases-loop-at l = length (left l.tree.rows (path_of l.tree.rows l.root) l.at)
