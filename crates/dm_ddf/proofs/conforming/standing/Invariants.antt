use Rattle.std.proofs.Common.{◌≡◌, ◌+◌, [], length}
use Rattle.std.specs.Prelude.{IfSome, filter, unwrap_or}
use Rattle.dm_tree.specs.Nodes.{last_name}
use Rattle.dm_tree.specs.Rows.{nodes, path_of, IsLive}
use Rattle.dm_tree.proofs.RoleSearch.{children_from}
use Rattle.dm_ddf.specs.Rules.{stands_for}
use Rattle.dm_ddf.specs.Breaches.{standing}
use Rattle.dm_ddf.proofs.conforming.standing.Given as goal

-- those so far and those among the children from this one on are all
abbrev pub invariant-loop-at : goal.invariant-loop-at
invariant-loop-at l = record {
  live : IfSome l.at (λ child. IsLive l.tree.rows child);
  counted : l.count
      + length (filter (λ q. stands_for l.rules l.rule (unwrap_or (last_name q) []) l.child) (children_from
      l.tree.rows l.at))
      ≡ standing (nodes l.tree.rows) l.rules (path_of l.tree.rows l.fn.id) l.rule l.child;
}

abbrev pub decreases-loop-at : goal.decreases-loop-at
decreases-loop-at l = length (children_from l.tree.rows l.at)
