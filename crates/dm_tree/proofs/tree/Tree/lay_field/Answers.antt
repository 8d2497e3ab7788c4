use Rattle.dm_tree.proofs.Common.{ap, Tree, node_of, with_field}
use Rattle.dm_tree.proofs.EqualTrees.{tree_kept}
use Rattle.dm_tree.proofs.FieldEdits.{tree-laid}
use Rattle.dm_tree.proofs.InvariantKept.{IsLaid, laid}
use Rattle.dm_tree.proofs.tree.Tree.lay_field.Goals as goal

is_laid : (c : goal.After-lay)
    → IsLaid c.args.self.now.rows c.lay.new.rows.items c.args.id
    (with_field (node_of c.args.self.now.rows c.args.id) c.args.field) c.self.inside.index.items
    c.self.inside.sizes.items
is_laid c =
    let tree = tree_kept c.self.view_is c.self.invariant.tree in
    let now = ap (λ (t : Tree). t.rows) c.self.view_is in
    laid _ c.args.self.now.rows _ c.args.id _ now c.requires.live (rw (now, c.row.ensures) at c.lay.ensures)
    (tree-laid c.args.self.now.rows tree c.args.id c.requires.live c.args.field c.requires.field) _ _ c.self.invariant

pub invariant_of-self : goal.invariant_of-self
invariant_of-self c = (is_laid c).invariant

pub returns : goal.returns
returns c = record {
  nodes = (is_laid c).at_path;
  ids = (is_laid c).same_ids;
  stays = (is_laid c).stays;
  parked = (is_laid c).parked;
  clock = ap (λ (t : Tree). t.clock) c.self.view_is;
}
