-- What the searches upwards find, one row further up.
use Rattle.dm_acl.specs.declared.values.Right.{Right}
use Rattle.dm_tree.specs.Walks.{row_names}
use Rattle.dm_tree.proofs.Common.{◌≡◌, ℕ, zero, suc, ◌-◌, ◌<◌, ◌≤◌, ◌++◌, ◌∷◌, true, false, nat_eq, List, [], length}
use Rattle.dm_tree.proofs.Common.{length-append, Option, Some, None, arith, refl, inl, inr, is_some, option_map}
use Rattle.dm_tree.proofs.Common.{cases_Bool, Row, Path, row_at, walk, path_below, placed, ids_below, path_up}
use Rattle.dm_tree.proofs.Common.{deciding_row}

pub length-path_up : (rows : List Row) (d k : ℕ) → length (path_up rows d k) ≡ d
length-path_up rows zero k = refl
length-path_up rows (suc d) k =
    omega (
      arith,
      length-append (path_up rows d (row_at rows k).parent) ((row_at rows k).name ∷ []),
      length-path_up rows d (row_at rows k).parent,
    )

pub path_up_one : (rows : List Row) (d k : ℕ) → 0 < d
    → path_up rows d k ≡ path_up rows (d - 1) (row_at rows k).parent ++ (row_at rows k).name ∷ []
path_up_one rows zero k h = absurd (omega arith)
path_up_one rows (suc d) k h = let e : suc d - 1 ≡ d = omega arith in rw e refl

-- ---- which row decides

pub decides_up : (rows : List Row) (right : Right) (d k : ℕ) → 0 < d → row_names (row_at rows k) right ≡ false
    → deciding_row rows right d k ≡ deciding_row rows right (d - 1) (row_at rows k).parent
decides_up rows right zero k h bare = absurd (omega arith)
decides_up rows right (suc d) k h bare = let e : suc d - 1 ≡ d = omega arith in rw (bare, e) refl

pub decides_here : (rows : List Row) (right : Right) (d k : ℕ) → row_names (row_at rows k) right ≡ true
    → deciding_row rows right d k ≡ Some k
decides_here rows right zero k is = rw is refl
decides_here rows right (suc d) k is = rw is refl

pub decides_none : (rows : List Row) (right : Right) (d k : ℕ) → d ≡ 0 → row_names (row_at rows k) right ≡ false
    → deciding_row rows right d k ≡ None
decides_none rows right zero k z bare = rw bare refl
decides_none rows right (suc d) k z bare = absurd (omega (arith, z))

-- ---- whether a row lies below the root

is_some_named : (o : Option Path) (n : List ℕ) → is_some (option_map (λ p. p ++ n ∷ []) o) ≡ is_some o
is_some_named None n = refl
is_some_named (Some p) n = refl

pub in_up : (rows : List Row) (d k : ℕ) → 0 < d → nat_eq k 0 ≡ false → (row_at rows k).attached ≡ true
    → is_some (walk rows d 0 k) ≡ is_some (walk rows (d - 1) 0 (row_at rows k).parent)
in_up rows zero k h other at = absurd (omega arith)
in_up rows (suc d) k h other at = let e : suc d - 1 ≡ d = omega arith in
    rw (other, at, e) (is_some_named (walk rows d 0 (row_at rows k).parent) (row_at rows k).name)

pub in_at_root : (rows : List Row) (d k : ℕ) → nat_eq k 0 ≡ true → is_some (walk rows d 0 k) ≡ true
in_at_root rows zero k is = rw is refl
in_at_root rows (suc d) k is = rw is refl

pub not_in : (rows : List Row) (d k : ℕ) → nat_eq k 0 ≡ false → (row_at rows k).attached ≡ false
    → is_some (walk rows d 0 k) ≡ false
not_in rows zero k other out = rw other refl
not_in rows (suc d) k other out = rw (other, out) refl

pub in_at_end : (rows : List Row) (d k : ℕ) → d ≡ 0 → is_some (walk rows d 0 k) ≡ nat_eq k 0
in_at_end rows zero k z = elim (cases_Bool (nat_eq k 0)) [ inl is ↦ rw is refl | inr isnt ↦ rw isnt refl ]
in_at_end rows (suc d) k z = absurd (omega (arith, z))

-- ---- how many rows lie there

pub length-ids_below : (rows : List Row) (top n : ℕ) → length (ids_below rows top n) ≤ n
length-ids_below rows top zero = omega arith
length-ids_below rows top (suc n) =
    let fewer = length-ids_below rows top n in
    elim (path_below rows top n) as (λ o. length (placed o n (ids_below rows top n)) ≤ suc n) [
      | None ↦ omega arith
      | Some p ↦ omega arith
    ]
