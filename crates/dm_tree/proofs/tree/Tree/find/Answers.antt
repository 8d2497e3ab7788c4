use Rattle.dm_tree.proofs.Common.{◌∙◌, ap, Tree}
use Rattle.dm_tree.proofs.EqualTrees.{tree_kept}
use Rattle.dm_tree.proofs.FoundRows.{find-root}
use Rattle.dm_tree.proofs.LiveRows.{found_is_live, found_node}
use Rattle.dm_tree.proofs.tree.Tree.find.Goals as goal

pub returns : goal.returns
returns c =
    let rows = c.deref.ensures.value ∙ ap (λ (t : Tree). t.rows) c.self.view_is in
    let found = (rw (rows, c.as_slice.ensures.names) at (c.of_row.ensures ∙ c.found_row.ensures))
    ∙ find-root c.args.self.now.rows (tree_kept c.self.view_is c.self.invariant.tree).shape c.args.path.now in
    record {
      found = found;
      node = found_node _ c.args.path.now c.of_row.result found;
      live = found_is_live _ c.args.path.now _ found;
    }
