-- The rows of a Meta, one after the other.
use Rattle.std.proofs.Common.{◌≡◌, ◌<◌, ◌≤◌, ℕ, zero, suc, Bool, true, false, List, [], ◌∷◌, length, drop, get_or, refl}
use Rattle.std.proofs.Common.{arith, add-one, ap, ◌∙◌}
use Rattle.std.specs.Prelude.{if◌then◌else◌}
use Rattle.wbxml_tables.specs.declared.Element.{Element}
use Rattle.syncml_shape.specs.declared.rows.MetaRow.{MetaRow}
use Rattle.syncml_shape.specs.Rows.{same, meta_place}

else_of : {A : Type 0} (b : Bool) (x y : A) → b ≡ false → (if b then x else y) ≡ y
else_of true x y h = cc
else_of false x y h = refl

-- a row of another element is passed over
pub past_row : (rows : List MetaRow) (at n : ℕ) (came : List Bool) (e : Element) (other : MetaRow) → at < length rows
    → length rows ≤ length came
    → same (get_or rows at other).element e ≡ false
    → meta_place n (drop at rows) (drop at came) e ≡ meta_place (suc n) (drop (suc at) rows) (drop (suc at) came) e
past_row [] at n came e other lt le h = absurd (omega arith)
past_row (row ∷ rows) at n [] e other lt le h = absurd (omega arith)
past_row (row ∷ rows) zero n (c ∷ came) e other lt le h =
    else_of (same row.element e) _ _ h ∙ ap (λ m. meta_place m rows came e) (add-one n)
past_row (row ∷ rows) (suc at) n (c ∷ came) e other lt le h =
    past_row rows at n came e other (omega arith) (omega arith) h
