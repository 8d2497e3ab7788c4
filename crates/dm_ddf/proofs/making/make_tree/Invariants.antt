use Rattle.std.proofs.Common.{◌≡◌, ◌≤◌, ◌∷◌, [], drop, Some}
use Rattle.dm_tree.specs.Nodes.{first_stamp}
use Rattle.dm_ddf.specs.Making.{only_root, after_rules}
use Rattle.dm_ddf.specs.Made.{making_of, AreLive}
use Rattle.dm_ddf.proofs.making.make_tree.Given as goal

-- what is made so far, and then of the other rules, is what all of them make
abbrev pub invariant-loop-at : goal.invariant-loop-at
invariant-loop-at l = record {
  first : 1 ≤ l.at;
  whole : after_rules l.rules (record { nodes = only_root; paths = Some [] ∷ [] }) (drop 1 l.rules)
      ≡ after_rules l.rules (making_of l.tree l.made) (drop l.at l.rules);
  live : AreLive l.tree.rows l.made;
  clock : l.tree.clock ≡ first_stamp;
}
