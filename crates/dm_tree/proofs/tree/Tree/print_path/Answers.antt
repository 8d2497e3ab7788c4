use Rattle.dm_tree.proofs.Common.{◌≡◌, ◌∙◌, ap, refl, Tree, path_of, path_up}
use Rattle.dm_tree.proofs.EqualTrees.{tree_kept}
use Rattle.dm_tree.proofs.LiveRows.{path_up-is, read_live}
use Rattle.dm_tree.proofs.tree.Tree.print_path.Goals as goal

pub returns : goal.returns
returns c =
    let shape = (tree_kept c.self.view_is c.self.invariant.tree).shape in
    let now = ap (λ (t : Tree). t.rows) c.self.view_is in
    let here = read_live c.self.view_is c.self.invariant.tree c.requires c.row-2.ensures c.index.ensures in
    let path : path_up c.deref.result.now c.index.result.now.depth c.row.result
    ≡ path_of c.args.self.now.rows c.args.id =
    rw (c.deref.ensures.value ∙ now, c.row.ensures, here)
    (path_up-is c.args.self.now.rows shape _ c.args.id _ refl c.requires) in
    rw path at c.print_up.ensures
