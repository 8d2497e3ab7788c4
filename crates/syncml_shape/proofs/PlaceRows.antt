-- The place that is computed is that of the first row that names the child.
use Rattle.std.specs.Prelude.{◌≡◌, ◌+◌, Bool, true, false, if◌then◌else◌, List, [], ◌∷◌, ◌++◌, length, Option, Some}
use Rattle.std.specs.Prelude.{None, IfSome, IfNone, refl}
use Rattle.std.proofs.Common.{sym, subst, append_assoc, length-append, append-nil}
use Rattle.wbxml_tables.specs.declared.Element.{Element}
use Rattle.syncml_shape.specs.declared.rows.ChildRow.{ChildRow}
use Rattle.syncml_shape.specs.declared.place.ChildPlace.{ChildPlace}
use Rattle.syncml_shape.specs.Places.{names_child, place_in, rows_of, child_place, NameNone, IsChildPlace}

none_more : (before : List ChildRow) (row : ChildRow) (child : Element) → NameNone before child → names_child row child ≡ false
    → NameNone (before ++ row ∷ []) child
none_more [] row child n h = (h, tt)
none_more (b ∷ before) row child n h = (n.0, none_more before row child n.1 h)

-- what is found behind rows that don't name the child
abbrev Found : List ChildRow → Element → Option ChildPlace → Type 0
Found rows child None = NameNone rows child
Found rows child (Some place) = IsChildPlace rows child place

found_behind : (rows before : List ChildRow) (child : Element) → NameNone before child
    → Found (before ++ rows) child (place_in (length before + 1) rows child)
found_behind [] before child n = subst (λ l. NameNone l child) (sym (append-nil before)) n
found_behind (row ∷ rows) before child n =
    elim (names_child row child)
    as (λ (b : Bool). names_child row child ≡ b
    → Found (before ++ row ∷ rows) child
    (if b then Some (record { order = length before + 1; required = row.required; many = row.many })
    else place_in (length before + 1 + 1) rows child)) [
      | true ↦ λ h. record { before = before; row = row; after = rows; all = refl; is_first = n; named = h; is = refl }
      | false ↦ λ h.
          subst (λ l. Found l child (place_in (length before + 1 + 1) rows child)) (append_assoc before (row ∷ []) rows)
          (subst (λ k. Found ((before ++ row ∷ []) ++ rows) child (place_in (k + 1) rows child))
          (length-append before (row ∷ []))
          (found_behind rows (before ++ row ∷ []) child (none_more before row child n h)))
    ] refl

pub found : (rows : List ChildRow) (child : Element) → Found rows child (place_in 1 rows child)
found rows child = found_behind rows [] child tt

pub found_place : (r : Option ChildPlace) (parent child : Element) → r ≡ child_place parent child
    → IfSome r (λ place. IsChildPlace (rows_of parent) child place)
found_place None parent child is = tt
found_place (Some place) parent child is = subst (Found (rows_of parent) child) (sym is) (found (rows_of parent) child)

pub found_none : (r : Option ChildPlace) (parent child : Element) → r ≡ child_place parent child
    → IfNone r (NameNone (rows_of parent) child)
found_none None parent child is = subst (Found (rows_of parent) child) (sym is) (found (rows_of parent) child)
found_none (Some place) parent child is = tt
