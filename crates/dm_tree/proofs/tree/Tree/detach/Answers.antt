use Rattle.dm_tree.specs.declared.rows.Change.TheVariants as change
use Rattle.dm_tree.proofs.Common.{◌≡◌, ◌∙◌, sym, subst, ap, true, false, Tree, IsShaped, IsTree, IsParkedTop, nodes}
use Rattle.dm_tree.proofs.Common.{ids, attached_as, TakesBack, IsSized, CanBeTakenOut, TakesEditBack}
use Rattle.dm_tree.proofs.EqualTrees.{tree_kept}
use Rattle.dm_tree.proofs.CutTrees.{IsCut, tree-cut}
use Rattle.dm_tree.proofs.InvariantKept.{back_again, may_take}
use Rattle.dm_tree.proofs.tree.Tree.detach.Goals as goal

pub take_out-requires-clause-attached : goal.take_out-requires-clause-attached
take_out-requires-clause-attached c =
    subst (λ (t : Tree). CanBeTakenOut t.rows c.row.result) (sym c.self.view_is)
    (subst (CanBeTakenOut c.args.self.now.rows) (sym c.row.ensures)
    (may_take c.args.self.now.rows (tree_kept c.self.view_is c.self.invariant.tree) c.args.id c.requires.live
    c.requires.removable))

-- ---- before the numbers are put right

cut : (c : goal.After-row-2) → IsCut c.args.self.now.rows c.args.id
cut c =
    tree-cut c.args.self.now.rows (tree_kept c.self.view_is c.self.invariant.tree) c.args.id c.requires.live
    c.requires.removable

rows : (c : goal.After-row-2) → c.deref.result.now ≡ attached_as c.args.self.now.rows c.args.id false
rows c =
    c.deref.ensures.value ∙ c.take_out.ensures.rows
    ∙ ap (λ (t : Tree). attached_as t.rows c.row.result false) c.self.view_is
    ∙ ap (λ k. attached_as c.args.self.now.rows k false) c.row.ensures

before : (c : goal.After-row-2) → attached_as c.deref.result.now c.row-2.result true ≡ c.args.self.now.rows
before c =
    ap (λ k. attached_as c.deref.result.now k true) c.row-2.ensures
    ∙ back_again c.args.self.now.rows c.deref.result.now c.args.id (cut c).taken.inside (cut c).taken.attached (rows c)

pub count_out-requires-clause-shaped : goal.count_out-requires-clause-shaped
count_out-requires-clause-shaped c = subst IsShaped (sym (rows c)) (cut c).tree.shape

pub count_out-requires-clause-before : goal.count_out-requires-clause-before
count_out-requires-clause-before c =
    subst IsShaped (sym (before c)) (tree_kept c.self.view_is c.self.invariant.tree).shape

pub count_out-requires-clause-sizes : goal.count_out-requires-clause-sizes
count_out-requires-clause-sizes c =
    subst (λ r. IsSized r c.self.inside.sizes.items) (ap (λ (t : Tree). t.rows) c.self.view_is ∙ sym (before c))
    c.self.invariant.sizes

-- ---- in the end

done : (c : goal.After-of) → IsCut c.args.self.now.rows c.args.id
done c =
    tree-cut c.args.self.now.rows (tree_kept c.self.view_is c.self.invariant.tree) c.args.id c.requires.live
    c.requires.removable

rows_are : (c : goal.After-of) → attached_as c.args.self.now.rows c.args.id false ≡ c.take_out.new.rows.items
rows_are c =
    sym (c.take_out.ensures.rows ∙ ap (λ (t : Tree). attached_as t.rows c.row.result false) c.self.view_is
    ∙ ap (λ k. attached_as c.args.self.now.rows k false) c.row.ensures)

undo_is : (c : goal.After-of) → c.of.result ≡ change.PutIn c.args.id
undo_is c = c.of.ensures ∙ ap (λ k. change.PutIn k) c.row-3.ensures

pub invariant_of-self : goal.invariant_of-self
invariant_of-self c = record {
  tree = subst IsTree (rows_are c) (done c).tree;
  index = c.take_out.ensures.index;
  sizes = subst (λ rows. IsSized rows c.count_out.new.sizes.items) c.deref.ensures.value c.count_out.ensures;
}

pub returns-clause-nodes : goal.returns-clause-nodes
returns-clause-nodes c = ap nodes (sym (rows_are c)) ∙ (done c).nodes

pub returns-clause-ids : goal.returns-clause-ids
returns-clause-ids c = ap ids (sym (rows_are c)) ∙ (done c).ids

pub returns-clause-undo : goal.returns-clause-undo
returns-clause-undo c =
    subst (λ u. TakesBack u c.args.self.now.rows c.take_out.new.rows.items) (sym (undo_is c))
    (subst (TakesBack (change.PutIn c.args.id) c.args.self.now.rows) (rows_are c) (done c).undo)

pub returns-clause-parked : goal.returns-clause-parked
returns-clause-parked c = (undo_is c, subst (λ r. IsParkedTop r c.args.id) (rows_are c) (done c).parked)

pub returns-clause-edit : goal.returns-clause-edit
returns-clause-edit c =
    subst (λ u. TakesEditBack u c.args.self.now.rows c.take_out.new.rows.items) (sym (undo_is c))
    (subst (TakesEditBack (change.PutIn c.args.id) c.args.self.now.rows) (rows_are c) (done c).edit)
