use Rattle.dm_tree.proofs.Common.{◌∙◌, ap, next_below, Tree, nodes, path_of}
use Rattle.dm_tree.proofs.EqualTrees.{tree_kept}
use Rattle.dm_tree.proofs.NextNodes.{Shows, shows_next, shown_ids, shown_live, shown_within}
use Rattle.dm_tree.proofs.NodesBehind.{shown_behind}
use Rattle.dm_tree.proofs.tree.Tree.next_below.Goals as goal

pub returns : goal.returns
returns c =
    let now = c.args.self.now.rows in
    let shape = (tree_kept c.self.view_is c.self.invariant.tree).shape in
    let rows = c.deref.ensures.value ∙ ap (λ (t : Tree). t.rows) c.self.view_is in
    let shows : Shows now c.of_row.result
    (next_below (nodes now) (path_of now c.args.top) (path_of now c.args.id) c.args.past) =
    rw (c.of_row.ensures, c.next_row.ensures, rows, c.row.ensures, c.row-2.ensures)
    (shows_next now shape c.args.top c.args.id c.requires.top c.requires.live c.requires.below c.args.past) in
    record {
      found = shown_ids now shape c.of_row.result _ shows;
      live = shown_live now c.of_row.result _ shows;
      within = shown_within now _ _ c.args.past c.of_row.result shows;
      behind = shown_behind now _ _ c.args.past c.of_row.result shows;
    }
