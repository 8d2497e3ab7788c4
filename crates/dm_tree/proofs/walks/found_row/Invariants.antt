use Rattle.dm_tree.proofs.Common.{◌≡◌, ◌<◌, drop, length, find_from}
use Rattle.dm_tree.proofs.walks.found_row.Given as goal

abbrev pub invariant-loop-name : goal.invariant-loop-name
invariant-loop-name l = record {
  inside : l.at < length l.rows;
  same : find_from l.rows l.at (drop l.name-index l.path) ≡ find_from l.rows 0 l.path;
}
