use Rattle.std.proofs.Common.{◌≡◌, ◌+◌, IfSome}
use Rattle.std.specs.FinMap as map
use Rattle.std.specs.Prelude.{IsTrue}
use Rattle.dm_tree.specs.Nodes.{is_below}
use Rattle.dm_tree.specs.Rows.{nodes, path_of, IsLive}
use Rattle.tree_bench.specs.Ways.{left}
use Rattle.tree_bench.proofs.rounds.walk.Given as goal

abbrev pub invariant-loop-next : goal.invariant-loop-next
invariant-loop-next l =
    (IfSome l.next (λ id. IsLive l.tree.rows id × IsTrue
    (is_below (path_of l.tree.rows l.root) (path_of l.tree.rows id))))
    × (l.count + left l.tree.rows l.root l.next ≡ map.len (nodes l.tree.rows))

abbrev pub decreases-loop-next : goal.decreases-loop-next
decreases-loop-next l = left l.tree.rows l.root l.next
