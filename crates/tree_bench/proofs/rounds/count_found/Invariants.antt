use Rattle.std.proofs.Common.{◌≡◌, ◌≤◌, take}
use Rattle.std.specs.List.{count_by}
use Rattle.std.specs.Prelude.{is_some}
use Rattle.std.specs.FinMap as map
use Rattle.dm_tree.specs.Rows.{ids}
use Rattle.tree_bench.proofs.rounds.count_found.Given as goal

abbrev pub invariant-loop-path : goal.invariant-loop-path
invariant-loop-path l =
    (l.found ≡ count_by (λ path. is_some (map.get (ids l.tree.rows) path)) (take l.path-index l.paths))
    × (l.found ≤ l.path-index)
