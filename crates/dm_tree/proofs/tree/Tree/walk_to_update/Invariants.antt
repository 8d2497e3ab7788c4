use Rattle.std.proofs.Common.{find, IsTrue, IfSome}
use Rattle.dm_tree.specs.declared.nodes.Role.TheVariants as role
use Rattle.dm_tree.proofs.Common.{◌≡◌, length, is_below, has_role, update_node, nodes, path_of, IsLive}
use Rattle.dm_tree.proofs.RenamedLengths.{still_to_come}
use Rattle.dm_tree.proofs.tree.Tree.walk_to_update.Given as goal

-- what has yet to come has the update node, where a node of the tree is one
abbrev pub invariant-loop-at : goal.invariant-loop-at
invariant-loop-at l = record {
  live : IfSome l.at (λ here. IsLive l.self.rows here);
  below : IfSome l.at (λ here. IsTrue (is_below (path_of l.self.rows l.root) (path_of l.self.rows here)));
  sought : find (has_role (nodes l.self.rows) role.UpdateNode) (still_to_come l.self.rows l.root l.at)
      ≡ update_node (nodes l.self.rows);
}

abbrev pub decreases-loop-at : goal.decreases-loop-at
decreases-loop-at l = length (still_to_come l.self.rows l.root l.at)
