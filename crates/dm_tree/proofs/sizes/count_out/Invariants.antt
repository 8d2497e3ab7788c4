use Rattle.dm_tree.proofs.Common.{row_at}
use Rattle.dm_tree.proofs.RowCounts.{AreOff}
use Rattle.dm_tree.proofs.sizes.count_out.Given as goal

abbrev pub invariant-loop-at : goal.invariant-loop-at
invariant-loop-at l = AreOff l.rows 0 l.fewer l.sizes.items l.at

abbrev pub decreases-loop-at : goal.decreases-loop-at
decreases-loop-at l = (row_at l.rows l.at).depth
