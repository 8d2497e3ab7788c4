use Rattle.std.proofs.Common.{option_and_then}
use Rattle.dm_tree.proofs.Common.{◌∙◌, sym, ap, None, get, next_sibling, Tree, nodes, ids, path_of}
use Rattle.dm_tree.proofs.EqualTrees.{tree_kept}
use Rattle.dm_tree.proofs.RowPaths.{not_zero}
use Rattle.dm_tree.proofs.LiveRows.{read_live}
use Rattle.dm_tree.proofs.NextNodes.{Shows, next-is, root_next, shown_ids, shown_live}
use Rattle.dm_tree.proofs.ChildListing.{shown_beside}
use Rattle.dm_tree.proofs.tree.Tree.next_sibling.Goals as goal

pub returns-then-row-eq0 : goal.returns-then-row-eq0
returns-then-row-eq0 c =
    let rows = c.args.self.now.rows in
    let none = root_next rows c.args.id (sym c.row.ensures ∙ c.if-row-eq0.true) in
    record {
      found = ap (λ s. option_and_then (get (ids rows)) s) (sym none);
      live = tt;
      behind = shown_beside rows (path_of rows c.args.id) None none;
    }

pub returns : goal.returns
returns c =
    let now = c.args.self.now.rows in
    let shape = (tree_kept c.self.view_is c.self.invariant.tree).shape in
    let rows = ap (λ (t : Tree). t.rows) c.self.view_is in
    let here = read_live c.self.view_is c.self.invariant.tree c.requires c.row-2.ensures c.index.ensures in
    let other = not_zero c.args.id (λ z. c.if-row-eq0.false (c.row.ensures ∙ z)) in
    let shows : Shows now c.of_row.result (next_sibling (nodes now) (path_of now c.args.id)) =
    rw (c.of_row.ensures, c.least_child.ensures, c.deref.ensures.value ∙ rows, here, c.row-3.ensures)
    (next-is now shape c.args.id c.requires other) in
    record {
      found = shown_ids now shape c.of_row.result _ shows;
      live = shown_live now c.of_row.result _ shows;
      behind = shown_beside now _ c.of_row.result shows;
    }
