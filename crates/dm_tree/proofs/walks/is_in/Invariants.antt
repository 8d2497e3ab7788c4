use Rattle.dm_tree.proofs.Common.{◌≡◌, ◌<◌, length, is_some, walk, path_below}
use Rattle.dm_tree.proofs.walks.is_in.Given as goal

abbrev pub invariant-loop-left : goal.invariant-loop-left
invariant-loop-left l = record {
  inside : l.at < length l.rows;
  same : is_some (walk l.rows l.left 0 l.at) ≡ is_some (path_below l.rows 0 l.id);
}

abbrev pub decreases-loop-left : goal.decreases-loop-left
decreases-loop-left l = l.left
