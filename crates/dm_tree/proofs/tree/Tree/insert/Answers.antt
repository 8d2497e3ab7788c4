use Rattle.dm_tree.specs.Nodes.{made}
use Rattle.dm_tree.proofs.Common.{inl, inr, ◌≡◌, ◌∙◌, sym, subst, ap, refl, arith, ◌∷◌, ◌++◌, [], ℕ, List, true, false}
use Rattle.dm_tree.proofs.Common.{Node, Row}
use Rattle.dm_tree.proofs.Common.{IsStamp, Tree, IsTree, path_of, new_row, IsPlaced}
use Rattle.dm_tree.proofs.EqualTrees.{tree_kept}
use Rattle.dm_tree.proofs.RowMaps.{get_nodes, none_of}
use Rattle.dm_tree.proofs.TreeEdits.{parent_is_shallow}
use Rattle.dm_tree.proofs.RowInserts.{IsWelcome, IsArrived, arrived}
use Rattle.dm_tree.proofs.FieldEdits.{held_made}
use Rattle.dm_tree.proofs.tree.Tree.insert.Goals as goal
use Rattle.dm_tree.proofs.tree.Tree.insert.Goals.{After-new_row-row}

pub new_row-row-requires-clause-shallow : goal.new_row-row-requires-clause-shallow
new_row-row-requires-clause-shallow c =
    let tree = tree_kept c.self.view_is c.self.invariant.tree in
    rw (c.row.ensures, c.deref.ensures.value ∙ ap (λ (t : Tree). t.rows) c.self.view_is)
    (parent_is_shallow c.args.self.now.rows tree.shape c.args.parent c.requires.live c.args.name c.requires.within)

-- the node, its row, and that it may come
tree : (c : After-new_row-row) → IsTree c.args.self.now.rows
tree c = tree_kept c.self.view_is c.self.invariant.tree

abbrev node : After-new_row-row → Node
node c = made c.args.self.now.clock c.args.node

abbrev row : After-new_row-row → Row
row c = new_row c.args.self.now.rows c.args.parent c.args.name (node c)

row_is : (c : After-new_row-row) → c.new_row-row.result ≡ record (row c) { attached = false }
row_is c =
    let rows = c.deref.ensures.value ∙ ap (λ (t : Tree). t.rows) c.self.view_is in
    let new : c.made.result ≡ node c = c.made.ensures ∙ ap (λ s. made s c.args.node) c.stamp.ensures.value
    ∙ ap (λ (t : Tree). made t.clock c.args.node) c.self.view_is in
    rw (c.new_row-row.ensures, rows, c.row.ensures, new) refl

may : (c : After-new_row-row) → IsWelcome c.args.self.now.rows c.args.parent c.args.name (node c)
may c = record {
  live = c.requires.live;
  interior = c.requires.interior;
  free =
      none_of _ _
      (sym (get_nodes c.args.self.now.rows (path_of c.args.self.now.rows c.args.parent ++ c.args.name ∷ []))
      ∙ c.requires.free);
  within = c.requires.within;
  permanent = c.requires.permanent;
  node =
      held_made c.args.self.now.clock c.args.node
      (subst IsStamp (c.stamp.ensures.value ∙ ap (λ (t : Tree). t.clock) c.self.view_is) c.stamp.ensures.kept)
      c.requires.node;
  name = c.as_slice.ensures.name;
  size = omega (arith, c.count.ensures, c.if-count-ge-NODE_LIMIT.false);
}

arrives : (c : After-new_row-row) (now : List Row) (id : ℕ)
    → IsPlaced c.self.inside.rows.items now id (record c.new_row-row.result { attached = true })
    → IsArrived c.args.self.now.rows now id c.args.parent c.args.name (node c)
arrives c now id there =
    arrived c.args.self.now.rows now id (tree c) c.args.parent c.args.name (node c) (may c)
    (subst (λ (t : Tree). IsPlaced t.rows now id (row c)) c.self.view_is
    (subst (λ r. IsPlaced c.self.inside.rows.items now id (record r { attached = true })) (row_is c) there))

pub place_row-requires-clause-after : goal.place_row-requires-clause-after
place_row-requires-clause-after c = λ id now there.
    (arrives (goal.at.place_row-requires-clause-after c).After-new_row-row now id there).tree

pub returns-clause-ok : goal.returns-clause-ok
returns-clause-ok c =
    rw (c.of.ensures, c.of-2.ensures)
    (arrives (goal.at.returns-clause-ok c).After-new_row-row c.place_row.new.rows.items c.in_ok-id.id
    c.in_ok-id.ensures.ok).inserted

pub returns-clause-edit : goal.returns-clause-edit
returns-clause-edit c =
    rw c.of-2.ensures
    (arrives (goal.at.returns-clause-edit c).After-new_row-row c.place_row.new.rows.items c.in_ok-id.id
    c.in_ok-id.ensures.ok).edit

pub returns-clause-parked : goal.returns-clause-parked
returns-clause-parked c none k top =
    let edit = (arrives (goal.at.returns-clause-parked c).After-new_row-row c.place_row.new.rows.items c.in_ok-id.id
    c.in_ok-id.ensures.ok).edit in
    elim (edit.only k top) [ inl was ↦ none k was | inr held ↦ cc ]

pub returns-clause-live : goal.returns-clause-live
returns-clause-live c =
    rw c.of.ensures
    (arrives (goal.at.returns-clause-live c).After-new_row-row c.place_row.new.rows.items c.in_ok-id.id
    c.in_ok-id.ensures.ok).live
