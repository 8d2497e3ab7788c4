use Rattle.dm_tree.proofs.Common.{◌∙◌, ◌<◌, sym, length, ap, arith, get_or_default, Tree}
use Rattle.dm_tree.proofs.EqualTrees.{tree_kept}
use Rattle.dm_tree.proofs.LiveRows.{len-nodes}
use Rattle.dm_tree.proofs.tree.Tree.count.Goals as goal

pub returns : goal.returns
returns c =
    let rows = ap (λ (t : Tree). t.rows) c.self.view_is in
    let first = c.self.invariant.tree.shape.rooted in
    let inside : 0 < length c.self.inside.sizes.items = omega (arith, first, c.self.invariant.sizes.same) in
    c.index.ensures ∙ get_or_default c.self.inside.sizes.items 0 c.index.result.now 0 inside
    ∙ (rw rows at (c.self.invariant.sizes.each 0 first))
    ∙ sym (len-nodes c.args.self.now.rows (tree_kept c.self.view_is c.self.invariant.tree).shape)
