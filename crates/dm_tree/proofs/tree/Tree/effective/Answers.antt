use Rattle.dm_tree.proofs.Common.{◌∙◌, ap, Tree}
use Rattle.dm_tree.proofs.EqualTrees.{tree_kept}
use Rattle.dm_tree.proofs.NextNodes.{shown_ids, shown_live}
use Rattle.dm_tree.proofs.DecidingLists.{decides-row}
use Rattle.dm_tree.proofs.tree.Tree.effective.Goals as goal

pub returns : goal.returns
returns c =
    let now = c.args.self.now.rows in
    let shape = (tree_kept c.self.view_is c.self.invariant.tree).shape in
    let rows = c.deref.ensures.value ∙ ap (λ (t : Tree). t.rows) c.self.view_is in
    let shows = decides-row now shape c.args.right c.args.id c.requires c.of_row.result
    (rw (rows, c.row.ensures) at (c.of_row.ensures ∙ c.deciding_row.ensures)) in
    record {
      found = shown_ids now shape c.of_row.result _ shows;
      live = shown_live now c.of_row.result _ shows;
    }
