use Rattle.dm_tree.proofs.Common.{◌∙◌, refl, arith, nat_tests}
use Rattle.dm_tree.proofs.EqualTrees.{tree_kept}
use Rattle.dm_tree.proofs.LiveRows.{has_parent, last_name-append, root_path, node_there, read_live}
use Rattle.dm_tree.proofs.RowPaths.{not_zero}
use Rattle.dm_tree.proofs.tree.Tree.view.Goals.{then-row-eq0, else-row-eq0}
use Rattle.dm_tree.proofs.tree.Tree.view.Goals as goal

pub returns-clause-name : goal.returns-clause-name
returns-clause-name c =
    let now = c.args.self.now.rows in
    let shape = (tree_kept c.self.view_is c.self.invariant.tree).shape in
    let here = read_live c.self.view_is c.self.invariant.tree c.requires c.row.ensures c.index-row.ensures in
    elim c.if-row-eq0.branch [
      | then-row-eq0 w ↦
          rw (w.result-is, root_path now shape c.args.id (grind (arith, nat_tests, w.if-row-eq0.true, c.row-2.ensures)))
          refl
      | else-row-eq0 w ↦
          let other = not_zero c.args.id (λ z. w.if-row-eq0.false (c.row-2.ensures ∙ z)) in
          rw (w.result-is, (has_parent now shape c.args.id c.requires other).path, last_name-append, here) refl
    ]

pub returns-clause-there : goal.returns-clause-there
returns-clause-there c =
    node_there c.args.self.now.rows (tree_kept c.self.view_is c.self.invariant.tree).shape c.args.id c.requires
