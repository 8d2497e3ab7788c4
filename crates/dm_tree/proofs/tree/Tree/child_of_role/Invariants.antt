use Rattle.std.proofs.Common.{find, IfSome}
use Rattle.dm_tree.specs.Devices.{child_of_role}
use Rattle.dm_tree.proofs.Common.{◌≡◌, length, has_role, nodes, path_of, IsLive}
use Rattle.dm_tree.proofs.RoleSearch.{children_from}
use Rattle.dm_tree.proofs.tree.Tree.child_of_role.Given as goal

-- among the children from this one on is the one that is sought
abbrev pub invariant-loop-at : goal.invariant-loop-at
invariant-loop-at l = record {
  live : IfSome l.at (λ child. IsLive l.self.rows child);
  sought : find (has_role (nodes l.self.rows) l.role) (children_from l.self.rows l.at)
      ≡ child_of_role (nodes l.self.rows) (path_of l.self.rows l.fn.id) l.role;
}

abbrev pub decreases-loop-at : goal.decreases-loop-at
decreases-loop-at l = length (children_from l.self.rows l.at)
