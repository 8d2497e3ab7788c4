use Rattle.dm_tree.proofs.Common.{subst₂, ap₂, ◌≡◌, ◌∙◌, List, sym, subst, ap, Change, Row, Tree, IsTree, flipped}
use Rattle.dm_tree.proofs.Common.{turned, Fits, IsHeld, TakesBack, IsSized}
use Rattle.dm_tree.proofs.EqualTrees.{tree_kept}
use Rattle.dm_tree.proofs.UndoFlips.{again, held_then, turned_twice}
use Rattle.dm_tree.proofs.tree.Tree.flip.Goals.{After-flip_row}
use Rattle.dm_tree.proofs.tree.Tree.flip.Goals as goal

tree : (c : After-flip_row) → IsTree c.args.self.now.rows
tree c = tree_kept c.self.view_is c.self.invariant.tree

rows_are : (c : After-flip_row) → c.flip_row.new.rows.items ≡ flipped c.args.self.now.rows c.args.undo.now
rows_are c =
    c.flip_row.ensures.rows ∙ ap₂ (λ (t : Tree) u. flipped t.rows u) c.self.view_is c.undo.view_is

undo_is : (c : After-flip_row) → c.flip_row.new.change ≡ turned c.args.self.now.rows c.args.undo.now
undo_is c =
    c.flip_row.ensures.change ∙ ap₂ (λ (t : Tree) u. turned t.rows u) c.self.view_is c.undo.view_is

-- what holds of the flipped rows and what the Undo has become holds of what the code left
as_left : (c : After-flip_row) (P : Change → List Row → Type 0)
    → P (turned c.args.self.now.rows c.args.undo.now) (flipped c.args.self.now.rows c.args.undo.now)
    → P c.flip_row.new.change c.flip_row.new.rows.items
as_left c P = subst₂ P (sym (undo_is c)) (sym (rows_are c))

back : (c : After-flip_row) → TakesBack c.flip_row.new.change c.args.self.now.rows c.flip_row.new.rows.items
back c =
    as_left c (λ u r. TakesBack u c.args.self.now.rows r)
    (again c.args.self.now.rows c.args.undo.now (tree c) c.requires)

pub returns-clause-again : goal.returns-clause-again
returns-clause-again c =
    let was = (goal.at.returns-clause-again c).After-flip_row in (
      back was,
      as_left was (λ u r. turned r u ≡ c.args.undo.now)
          (turned_twice c.args.self.now.rows c.args.undo.now c.requires.inside),
    )

pub returns-clause-held : goal.returns-clause-held
returns-clause-held c =
    let was = (goal.at.returns-clause-held c).After-flip_row in
    as_left was (λ u r. IsHeld r u) (held_then c.args.self.now.rows c.args.undo.now (tree was) c.requires)

pub recount-requires-clause-fits : goal.recount-requires-clause-fits
recount-requires-clause-fits c =
    subst (λ r. Fits r c.flip_row.new.change) (sym c.deref.ensures.value)
    (back (goal.at.recount-requires-clause-fits c).After-flip_row).fits

pub recount-requires-clause-sizes : goal.recount-requires-clause-sizes
recount-requires-clause-sizes c =
    let back = back (goal.at.recount-requires-clause-sizes c).After-flip_row in
    subst (λ r. IsSized r c.self.inside.sizes.items)
    (ap (λ (t : Tree). t.rows) c.self.view_is ∙ sym back.rows
    ∙ ap (λ r. flipped r c.flip_row.new.change) (sym c.deref.ensures.value)) c.self.invariant.sizes
