-- What a flip changes of the rows.
use Rattle.dm_tree.specs.declared.rows.Change.TheVariants as change
use Rattle.dm_tree.proofs.Common.{◌≡◌, ℕ, ◌<◌, Bool, List, length, sym, get_or-set_other, Node, Row, Change, blank}
use Rattle.dm_tree.proofs.Common.{row_at, row_of, flipped}
use Rattle.dm_tree.proofs.NodeEdits.{of_both}

pub other_row : (rows : List Row) (u : Change) (k : ℕ) → (row_of u ≡ k → ⊥) → row_at (flipped rows u) k ≡ row_at rows k
other_row rows (change.PutIn j) k d = get_or-set_other rows j k _ blank (λ e. d (sym e))
other_row rows u k d = get_or-set_other rows (row_of u) k _ blank (λ e. d (sym e))

-- what no flip changes of a row
pub kin-flipped : {X : Type 0} (f : Row → X)
    → ((r : Row) (a : Bool) (name : List ℕ) (n : Node) → f (record r { attached = a; name = name; node = n }) ≡ f r)
    → (rows : List Row) (u : Change) → row_of u < length rows → (j : ℕ)
    → f (row_at (flipped rows u) j) ≡ f (row_at rows j)
kin-flipped f e rows (change.PutIn k) l j = of_both rows k _ f (e (row_at rows k) _ _ _) j l
kin-flipped f e rows u l j = of_both rows (row_of u) _ f (e (row_at rows (row_of u)) _ _ _) j l
