use Rattle.dm_tree.proofs.Common.{◌∙◌, ap, refl, Tree}
use Rattle.dm_tree.proofs.EqualTrees.{tree_kept}
use Rattle.dm_tree.proofs.LiveRows.{path_up-is, read_live}
use Rattle.dm_tree.proofs.tree.Tree.path.Goals as goal

pub returns : goal.returns
returns c =
    let shape = (tree_kept c.self.view_is c.self.invariant.tree).shape in
    let now = ap (λ (t : Tree). t.rows) c.self.view_is in
    let here = read_live c.self.view_is c.self.invariant.tree c.requires c.row.ensures c.index.ensures in
    rw (c.in_ok-put_path.ensures, c.new-path.ensures, c.deref.ensures.value ∙ now, c.row-2.ensures, here)
    (path_up-is c.args.self.now.rows shape _ c.args.id _ refl c.requires)
