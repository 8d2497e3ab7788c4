use Rattle.std.proofs.Common.{IfSome}
use Rattle.std.specs.Prelude.{IsTrue}
use Rattle.dm_tree.specs.Nodes.{is_below}
use Rattle.dm_tree.specs.Rows.{path_of, IsLive}
use Rattle.tree_tests.proofs.rows.rows_of.Given as goal

-- the next node is below the root
abbrev pub invariant-loop : goal.invariant-loop
invariant-loop l =
    IfSome l.next (λ id.
    IsLive l.tree.rows id × IsTrue (is_below (path_of l.tree.rows l.root) (path_of l.tree.rows id)))
