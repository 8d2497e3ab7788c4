use Rattle.dm_tree.proofs.Common.{◌≡◌, ◌∙◌, ap, refl, [], ◌∷◌, is_name, no_children}
use Rattle.dm_tree.proofs.InvariantKept.{root-index}
use Rattle.dm_tree.proofs.RootTree.{starts, nodes-root, root_row}
use Rattle.dm_tree.proofs.RowCounts.{sized-root}
use Rattle.dm_tree.proofs.tree.Tree.new.Goals as goal

grown : (c : goal.After-at) → c.push.new.self.items ≡ root_row c.in-Ok.name c.args.root_acl ∷ []
unfolding root_row
grown c = rw (c.in_ok-push.ensures.items, c.new-rows.ensures.items, c.in_ok-node.ensures) refl

index_is : (c : goal.After-at) → c.push-2.new.self.items ≡ no_children ∷ []
index_is c = rw (c.in_ok-push-2.ensures.items, c.new-index.ensures.items, c.new.ensures) refl

pub invariant_of-result : goal.invariant_of-result
invariant_of-result c = record {
  tree =
      rw (grown c) (starts c.in-Ok.name c.args.root_acl (ap is_name c.in-Ok.ensures.ok.0 ∙ c.in-Ok.ensures.ok.1)
      c.requires);
  index = rw (grown c, index_is c) (root-index c.in-Ok.name c.args.root_acl);
  sizes = rw (grown c, c.in_ok-sizes.ensures.items) (sized-root (root_row c.in-Ok.name c.args.root_acl));
}

pub returns-clause-nodes : goal.returns-clause-nodes
returns-clause-nodes c = rw (grown c) (nodes-root c.in-Ok.name c.args.root_acl)
