use Rattle.dm_tree.proofs.Common.{◌∙◌, ap, [], ◌∷◌, ◌++◌, Tree, path_of, child_of}
use Rattle.dm_tree.proofs.EqualTrees.{tree_kept}
use Rattle.dm_tree.proofs.FoundRows.{child-ids}
use Rattle.dm_tree.proofs.LiveRows.{found_is_live, found_node}
use Rattle.dm_tree.proofs.tree.Tree.child.Goals as goal

pub returns : goal.returns
returns c =
    let rows = c.deref.ensures.value ∙ ap (λ (t : Tree). t.rows) c.self.view_is in
    let at = path_of c.args.self.now.rows c.args.id ++ c.args.name.now ∷ [] in
    let found = (rw rows at (c.of_row.ensures ∙ c.child_row.ensures))
    ∙ ap (λ k. child_of c.args.self.now.rows k c.args.name.now) c.row.ensures
    ∙ child-ids c.args.self.now.rows (tree_kept c.self.view_is c.self.invariant.tree).shape c.args.id c.requires
    c.args.name.now in
    record { found = found; node = found_node _ at c.of_row.result found; live = found_is_live _ at _ found }
