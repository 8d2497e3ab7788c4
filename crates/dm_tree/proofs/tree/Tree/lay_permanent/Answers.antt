use Rattle.dm_tree.specs.Nodes.{with_mark}
use Rattle.dm_tree.proofs.Common.{ap, Tree, node_of, row_at}
use Rattle.dm_tree.proofs.EqualTrees.{tree_kept}
use Rattle.dm_tree.proofs.InvariantKept.{IsLaid, laid}
use Rattle.dm_tree.proofs.LiveRows.{has_parent, above-append, node_there}
use Rattle.dm_tree.proofs.NodeEdits.{live_row}
use Rattle.dm_tree.proofs.TreeEdits.{tree-with_mark}
use Rattle.dm_tree.proofs.tree.Tree.lay_permanent.Goals as goal

is_laid : (c : goal.After-set_mark)
    → IsLaid c.args.self.now.rows c.set_mark.new.rows.items c.args.id
    (with_mark (node_of c.args.self.now.rows c.args.id)) c.self.inside.index.items c.self.inside.sizes.items
is_laid c =
    let tree = tree_kept c.self.view_is c.self.invariant.tree in
    let now = ap (λ (t : Tree). t.rows) c.self.view_is in
    let inside = live_row c.args.self.now.rows tree.shape c.args.id c.requires.live in
    laid _ c.args.self.now.rows _ c.args.id _ now c.requires.live (rw (now, c.row.ensures) at c.set_mark.ensures)
    (tree-with_mark c.args.self.now.rows tree c.args.id inside (λ other.
    let up = has_parent c.args.self.now.rows tree.shape c.args.id c.requires.live other in
    let there = node_there c.args.self.now.rows tree.shape (row_at c.args.self.now.rows c.args.id).parent up.live in
    rw (up.path, above-append, there) at c.requires.parent)) _ _ c.self.invariant

pub invariant_of-self : goal.invariant_of-self
invariant_of-self c = (is_laid c).invariant

pub returns : goal.returns
returns c = record {
  nodes = (is_laid c).at_path;
  ids = (is_laid c).same_ids;
  stays = (is_laid c).stays;
  parked = (is_laid c).parked;
  clock = ap (λ (t : Tree). t.clock) c.self.view_is;
}
