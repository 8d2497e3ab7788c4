use Rattle.dm_tree.proofs.Common.{◌∙◌, ap, false, sym, subst, IsTree, attached_as, without_content, IsIndex, IsSized}
use Rattle.dm_tree.proofs.RowPaths.{attached_row}
use Rattle.dm_tree.proofs.RowFreeing.{tree-left, parked-left, tree-freed}
use Rattle.dm_tree.proofs.InvariantKept.{back_again, kept-given_up}
use Rattle.dm_tree.proofs.discards.free_child.Goals as goal

pub count_out-requires-clause-sizes : goal.count_out-requires-clause-sizes
count_out-requires-clause-sizes c =
    let rows = c.args.rows.now.items in
    let there = attached_row rows c.requires.kept.tree.shape c.args.id c.requires.left.attached in
    subst (λ r. IsSized r c.args.sizes.now.items)
    (sym (back_again rows c.deref.result.now c.args.id there.1 c.requires.left.attached
    (c.deref.ensures.value ∙ c.take_out.ensures.rows))) c.requires.kept.sizes

pub give_up_top-requires-clause-tree : goal.give_up_top-requires-clause-tree
give_up_top-requires-clause-tree c =
    subst IsTree (sym c.take_out.ensures.rows)
    (tree-left c.args.rows.now.items c.args.id c.requires.left c.requires.kept.tree)

pub returns-clause-kept : goal.returns-clause-kept
returns-clause-kept c =
    let rows = c.args.rows.now.items in
    let tree = c.requires.kept.tree in
    let out = c.take_out.ensures.rows in
    kept-given_up c.take_out.new.rows.items (attached_as rows c.args.id false) c.give_up_top.new.rows.items c.args.id
    out
    (parked-left rows c.args.id c.requires.left tree)
    (c.give_up_top.ensures.rows ∙ ap (λ r. without_content r c.args.id) out)
    (tree-freed rows c.args.id c.requires.left tree)
    c.take_out.new.index.items c.give_up_top.new.index.items c.count_out.new.sizes.items
    (record {
      tree = subst IsTree (sym out) (tree-left rows c.args.id c.requires.left tree);
      index = c.take_out.ensures.index;
      sizes = subst (λ r. IsSized r c.count_out.new.sizes.items) c.deref.ensures.value c.count_out.ensures;
    })
    (subst (λ r. IsIndex r c.give_up_top.new.index.items) c.give_up_top.ensures.rows c.give_up_top.ensures.index)
