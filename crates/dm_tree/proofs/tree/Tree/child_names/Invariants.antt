use Rattle.dm_tree.specs.Order.{child_names}
use Rattle.dm_tree.proofs.Common.{◌≡◌, ◌++◌, length, joined, children_behind, nodes, path_of, IsLive}
use Rattle.dm_tree.proofs.ChildListing.{more_names}
use Rattle.dm_tree.proofs.tree.Tree.child_names.Given as goal

abbrev pub invariant-loop-next : goal.invariant-loop-next
invariant-loop-next l = record {
  live : IsLive l.self.rows l.at;
  same : l.out ++ more_names (children_behind (nodes l.self.rows) (path_of l.self.rows l.at))
      ≡ joined (child_names (nodes l.self.rows) (path_of l.self.rows l.fn.id));
}

abbrev pub decreases-loop-next : goal.decreases-loop-next
decreases-loop-next l = length (children_behind (nodes l.self.rows) (path_of l.self.rows l.at))
