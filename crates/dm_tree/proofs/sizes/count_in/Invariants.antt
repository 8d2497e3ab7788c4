use Rattle.dm_tree.proofs.Common.{row_at}
use Rattle.dm_tree.proofs.RowCounts.{AreOff}
use Rattle.dm_tree.proofs.sizes.count_in.Given as goal

abbrev pub invariant-loop-at : goal.invariant-loop-at
invariant-loop-at l = AreOff l.rows l.more 0 l.sizes.items l.at

abbrev pub decreases-loop-at : goal.decreases-loop-at
decreases-loop-at l = (row_at l.rows l.at).depth
