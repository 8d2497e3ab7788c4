use Rattle.dm_tree.proofs.Common.{◌≡◌, ◌<◌, length, row_at, deciding_row}
use Rattle.dm_tree.proofs.walks.deciding_row.Given as goal

abbrev pub invariant-loop-left : goal.invariant-loop-left
invariant-loop-left l = record {
  inside : l.at < length l.rows;
  same : deciding_row l.rows l.right l.left l.at ≡ deciding_row l.rows l.right (row_at l.rows l.id).depth l.id;
}

abbrev pub decreases-loop-left : goal.decreases-loop-left
decreases-loop-left l = l.left
