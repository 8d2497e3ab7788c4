-- Trees that are equal have the same rows.
use Rattle.dm_tree.proofs.Common.{◌≡◌, ◌∙◌, ℕ, List, ap, ap₂, subst, Row, Stamp, Tree, IsTree}

-- the rows of an equal tree keep to what these do
pub tree_kept : {a b : Tree} → a ≡ b → IsTree a.rows → IsTree b.rows
tree_kept e tree = subst (λ (t : Tree). IsTree t.rows) e tree

-- what is made of the rows, a number and a stamp is what is made of the equal tree, the equal number and its clock
pub made_alike : {X : Type 0} (f : List Row → ℕ → Stamp → X) {a b : Tree} {j k : ℕ} {s : Stamp} → a ≡ b → j ≡ k
    → s ≡ a.clock → f a.rows j s ≡ f b.rows k b.clock
made_alike f {a} {j = j} e g h = ap (f a.rows j) h ∙ ap₂ (λ (t : Tree) i. f t.rows i t.clock) e g
