use Rattle.dm_tree.proofs.Common.{ap, refl, subst, sym, IsRoot, counted, Tree, node_of}
use Rattle.dm_tree.proofs.EqualTrees.{tree_kept}
use Rattle.dm_tree.proofs.InvariantKept.{IsLaid, laid}
use Rattle.dm_tree.proofs.NodeEdits.{live_row}
use Rattle.dm_tree.proofs.TreeEdits.{tree-with_node}
use Rattle.dm_tree.proofs.tree.Tree.reload.Goals as goal

is_laid : (c : goal.After-set_counts)
    → IsLaid c.args.self.now.rows c.set_counts.new.rows.items c.args.id
    (counted (node_of c.args.self.now.rows c.args.id) c.args.verno c.args.stamp) c.self.inside.index.items
    c.self.inside.sizes.items
is_laid c =
    let tree = tree_kept c.self.view_is c.self.invariant.tree in
    let now = ap (λ (t : Tree). t.rows) c.self.view_is in
    let inside = live_row c.args.self.now.rows tree.shape c.args.id c.requires in
    let held = (tree.each c.args.id inside).node in
    laid _ c.args.self.now.rows _ c.args.id _ now c.requires (rw (now, c.row.ensures) at c.set_counts.ensures.rows)
    (tree-with_node c.args.self.now.rows tree c.args.id inside _ (record {
      value = held.value;
      acl = held.acl;
      title = held.title;
      verno = c.set_counts.ensures.kept.0;
      stamp = c.set_counts.ensures.kept.1;
    }) (record { interior = refl; permanent = refl }) (λ z.
    let top = subst (λ k. IsRoot (node_of c.args.self.now.rows k)) (sym z) tree.root in
    record { interior = top.interior; permanent = top.permanent; acl = top.acl; media = top.media; role = top.role }))
    _ _ c.self.invariant

pub invariant_of-self : goal.invariant_of-self
invariant_of-self c = (is_laid c).invariant

pub returns : goal.returns
returns c = record {
  nodes = (is_laid c).at_path;
  ids = (is_laid c).same_ids;
  stays = (is_laid c).stays;
  parked = (is_laid c).parked;
  clock = ap (λ (t : Tree). t.clock) c.self.view_is;
}
