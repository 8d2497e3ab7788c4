use Rattle.dm_tree.proofs.Common.{◌∙◌, ap, first_child, Tree, nodes, path_of}
use Rattle.dm_tree.proofs.EqualTrees.{tree_kept}
use Rattle.dm_tree.proofs.NextNodes.{Shows, first-is, shown_ids, shown_live}
use Rattle.dm_tree.proofs.ChildListing.{shown_children}
use Rattle.dm_tree.proofs.tree.Tree.first_child.Goals as goal

pub returns : goal.returns
returns c =
    let now = c.args.self.now.rows in
    let shape = (tree_kept c.self.view_is c.self.invariant.tree).shape in
    let rows = c.deref.ensures.value ∙ ap (λ (t : Tree). t.rows) c.self.view_is in
    let shows : Shows now c.of_row.result (first_child (nodes now) (path_of now c.args.id)) =
    rw (c.of_row.ensures, c.least_child.ensures, rows, c.row.ensures) (first-is now shape c.args.id c.requires) in
    record {
      found = shown_ids now shape c.of_row.result _ shows;
      live = shown_live now c.of_row.result _ shows;
      children = shown_children now _ c.of_row.result shows;
    }
