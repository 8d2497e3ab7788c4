use Rattle.dm_tree.proofs.Common.{◌∙◌, ap, sym, subst, true, false, IsShaped, IsTree, attached_as, IsSized, IsPlaced}
use Rattle.dm_tree.proofs.NewRowPlace.{put_in_placed, may_put_placed, out_again}
use Rattle.dm_tree.proofs.new_rows.place_row.Goals as goal
use Rattle.dm_tree.proofs.new_rows.place_row.Goals.{In-Ok}

-- once it is put in
placed : (c : In-Ok)
    → IsPlaced c.args.rows.now.items (attached_as c.add_or_fill.new.rows.items c.in-Ok.id true) c.in-Ok.id
    (record c.args.row { attached = true })
placed c =
    put_in_placed c.args.rows.now.items c.add_or_fill.new.rows.items c.in-Ok.id c.args.row c.in-Ok.ensures.ok

tree : (c : In-Ok) → IsTree (attached_as c.add_or_fill.new.rows.items c.in-Ok.id true)
tree c = c.requires.after c.in-Ok.id _ (placed c)

pub put_in-requires-clause-out : goal.put_in-requires-clause-out
put_in-requires-clause-out c =
    may_put_placed c.args.rows.now.items c.add_or_fill.new.rows.items c.requires.kept.tree c.in-Ok.id c.args.row
    c.requires.out c.requires.held c.requires.parent c.in-Ok.ensures.ok
    (tree (goal.at.put_in-requires-clause-out c).In-Ok)

pub count_in-requires-clause-shaped : goal.count_in-requires-clause-shaped
count_in-requires-clause-shaped c =
    subst IsShaped (sym (c.deref.ensures.value ∙ c.put_in.ensures.rows))
    (tree (goal.at.count_in-requires-clause-shaped c).In-Ok).shape

pub count_in-requires-clause-sizes : goal.count_in-requires-clause-sizes
count_in-requires-clause-sizes c =
    subst (λ rows. IsSized rows c.add_or_fill.new.sizes.items)
    (sym (ap (λ rows. attached_as rows c.in-Ok.id false) (c.deref.ensures.value ∙ c.put_in.ensures.rows)
    ∙ out_again c.args.rows.now.items c.add_or_fill.new.rows.items c.requires.kept.tree c.in-Ok.id c.args.row
    c.requires.out c.requires.held c.requires.parent c.in-Ok.ensures.ok)) c.add_or_fill.ensures.sizes

pub returns-in-Ok-clause-ok : goal.returns-in-Ok-clause-ok
returns-in-Ok-clause-ok c = rw c.put_in.ensures.rows (placed (goal.at.returns-in-Ok-clause-ok c).In-Ok)

pub returns-in-Ok-clause-kept : goal.returns-in-Ok-clause-kept
returns-in-Ok-clause-kept c = record {
  tree = rw c.put_in.ensures.rows (tree (goal.at.returns-in-Ok-clause-kept c).In-Ok);
  index = c.put_in.ensures.index;
  sizes = subst (λ rows. IsSized rows c.count_in.new.sizes.items) c.deref.ensures.value c.count_in.ensures;
}
