-- The rows of both tables are those of the elements.
use Rattle.std.proofs.Common.{ℕ, ◌≡◌, List, [], ◌∷◌, ◌++◌, refl, sym, ap, ◌∙◌, rules}
use Rattle.std.specs.Prelude.{◌==◌, ◌&&◌, Bool, true, false, if◌then◌else◌, Option, Some, None, IfSome, IfNone}
use Rattle.wbxml_tables.specs.declared.Element.{Element}
use Rattle.wbxml_tables.specs.declared.Element.TheVariants as elements
use Rattle.wbxml_tables.specs.declared.CodeRow.{CodeRow}
use Rattle.wbxml_tables.specs.declared.TheConstants as table
use Rattle.wbxml_tables.specs.Tables.{page_of, code_on_page, element_in, element_at, HasCode}

-- an element is found by its own page and code
own_row : (e : Element) → element_at (page_of e) (code_on_page e) ≡ Some e
unfolding element_at
own_row elements.EAdd = refl
own_row other = refl

-- each row has the page and the code of its element
abbrev are_right : List CodeRow → Bool
are_right [] = true
are_right (r ∷ rows) = (page_of r.element == r.page) && ((code_on_page r.element == r.code) && are_right rows)

rows_are_right : are_right (table.PROTOCOL.rows ++ table.META.rows) ≡ true
rows_are_right = refl

found_at : (r : CodeRow) (rows : List CodeRow) (page code : ℕ) (e : Element) (c : Bool) → (r.page == page && r.code == code) ≡ c
    → are_right (r ∷ rows) ≡ true → (are_right rows ≡ true → element_in rows page code ≡ Some e → HasCode page code e)
    → (if c then Some r.element else element_in rows page code) ≡ Some e → HasCode page code e
found_at r rows page code e true here h later is = search rules
found_at r rows page code e false here h later is = later (search rules) is

found_in : (rows : List CodeRow) (page code : ℕ) (e : Element) → are_right rows ≡ true → element_in rows page code ≡ Some e
    → HasCode page code e
found_in [] page code e h is = cc
found_in (r ∷ rows) page code e h is =
    found_at r rows page code e (r.page == page && r.code == code) refl h (found_in rows page code e) is

-- an element of a row has its page and its code
pub row_is_right : (page code : ℕ) (e : Element) → element_at page code ≡ Some e → HasCode page code e
unfolding element_at
row_is_right page code e is = found_in (table.PROTOCOL.rows ++ table.META.rows) page code e rows_are_right is

-- no row is found where no element is
pub no_row : (page code : ℕ) → ((e : Element) → HasCode page code e → ⊥) → element_at page code ≡ None
no_row page code none = none_by (element_at page code) refl
  where
    none_by : (o : Option Element) → element_at page code ≡ o → o ≡ None
    none_by None is = refl
    none_by (Some e) is = absurd (none e (row_is_right page code e is))

some_there : (page code p c : ℕ) (e : Element) → p ≡ page → c ≡ code → element_at p c ≡ Some e
    → Some e ≡ element_at page code
some_there page code p c e same_page same_code is =
    sym is ∙ ap (λ x. element_at x c) same_page ∙ ap (element_at page) same_code

-- no element is where no row is found
pub none_at : (page code : ℕ) (e : Element) → element_at page code ≡ None → HasCode page code e → ⊥
none_at page code e none at =
    none_and_some (sym none ∙ sym (some_there page code (page_of e) (code_on_page e) e at.0 at.1 (own_row e)))
  where
    none_and_some : None ≡ Some e → ⊥
    none_and_some h = cc

none_there : (o : Option Element) (page code : ℕ) → element_at page code ≡ o → ((e : Element) → HasCode page code e → ⊥)
    → None ≡ o
unfolding element_at
none_there None page code is none = refl
none_there (Some e) page code is none =
    absurd (none e (found_in (table.PROTOCOL.rows ++ table.META.rows) page code e rows_are_right is))

-- what is found among the elements is found among the rows
pub same_row : (o : Option Element) (page code : ℕ) → IfSome o (λ e. HasCode page code e)
    → IfNone o ((e : Element) → HasCode page code e → ⊥)
    → o ≡ element_at page code
same_row None page code some none = none_there (element_at page code) page code refl none
same_row (Some e) page code some none = some_there page code (page_of e) (code_on_page e) e some.0 some.1 (own_row e)
