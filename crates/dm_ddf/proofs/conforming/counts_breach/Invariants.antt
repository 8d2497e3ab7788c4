use Rattle.std.proofs.Common.{◌≡◌, drop}
use Rattle.dm_tree.specs.Rows.{nodes, path_of}
use Rattle.dm_ddf.specs.Rules.{rule_at, child_rules}
use Rattle.dm_ddf.specs.Breaches.{first_told, count_breach, standing, counts_breach}
use Rattle.dm_ddf.proofs.conforming.counts_breach.Given as goal

abbrev pub invariant-loop-child : goal.invariant-loop-child
invariant-loop-child l =
    counts_breach (nodes l.tree.rows) l.rules (path_of l.tree.rows l.fn.id) l.rule
    ≡ first_told (λ r. count_breach r (rule_at l.rules r).occurs
    (standing (nodes l.tree.rows) l.rules (path_of l.tree.rows l.fn.id) l.rule r))
    (drop l.child-index (child_rules l.rules l.rule))
