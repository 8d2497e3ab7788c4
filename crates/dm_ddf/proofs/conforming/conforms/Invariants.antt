use Rattle.std.proofs.Common.{◌≡◌, length}
use Rattle.std.specs.Prelude.{IfSome}
use Rattle.dm_tree.specs.Rows.{nodes, path_of}
use Rattle.dm_ddf.specs.Breaches.{breach_among, first_breach}
use Rattle.dm_ddf.proofs.Walks.{left, IsOn}
use Rattle.dm_ddf.proofs.conforming.conforms.Given as goal

-- no node before this one has a breach
abbrev pub invariant-loop-at : goal.invariant-loop-at
invariant-loop-at l = record {
  on : IfSome l.at (IsOn l.tree.rows (path_of l.tree.rows l.root));
  first : breach_among (nodes l.tree.rows) l.rules (left l.tree.rows (path_of l.tree.rows l.root) l.at)
      ≡ first_breach (nodes l.tree.rows) l.rules;
}

abbrev pub decreases-loop-at : goal.decreases-loop-at
decreases-loop-at l = length (left l.tree.rows (path_of l.tree.rows l.root) l.at)
