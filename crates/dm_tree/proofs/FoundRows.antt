-- What the searches find is what the maps say.
use Rattle.std.proofs.Common.{drop-cons}
use Rattle.dm_tree.specs.Walks.{is_child}
use Rattle.std.specs.List.{position_from}
use Rattle.std.specs.Cmp.Lexicographic.{same_text, nat_list_eq_equiv}
use Rattle.std.specs.Prelude.{bytes_eq}
use Rattle.dm_tree.proofs.Common.{◌≡◌, ℕ, zero, suc, ◌+◌, ◌<◌, Bool, true, false, nat_eq, List, [], ◌∷◌, ◌++◌, length}
use Rattle.dm_tree.proofs.Common.{Option, None, Some, get_or, refl, sym, ◌∙◌, ap, subst, arith, inl, inr, drop}
use Rattle.dm_tree.proofs.Common.{append_assoc, append-nil, Row, Path, blank, row_at, path_below, ids, IsShaped, IsLive}
use Rattle.dm_tree.proofs.Common.{path_of, child_of, find_from, and_from, and_parts, cases_Bool, false_from_ne_true}
use Rattle.dm_tree.proofs.Common.{nat_tests, ◌&&◌, get, option_and_then}
use Rattle.dm_tree.proofs.RowPaths.{Child, above, attached_row, child_below, one_row, same_number}
use Rattle.dm_tree.proofs.RowMaps.{id_is, id_of, root_live}

position_is : {X : Type 0} (p : X → Bool) (i : ℕ) (xs : List X) (k : ℕ) (d : X) → position_from p i xs ≡ Some k
    → (j : ℕ) × (k ≡ i + j) × (j < length xs) × (p (get_or xs j d) ≡ true)
position_is p i [] k d e = absurd (cc)
position_is p i (x ∷ xs) k d e = elim (cases_Bool (p x)) [
  | inl is ↦
      let found : Some i ≡ Some k = rw is at e in
      let same : i ≡ k = cc in
      (0, omega (arith, same), omega arith, is)
  | inr isnt ↦ let r = position_is p (i + 1) xs k d (rw isnt at e) in
      (suc r.0, omega (arith, r.1), omega (arith, r.2), r.3)
]

position_absent : {X : Type 0} (p : X → Bool) (i : ℕ) (xs : List X) (d : X) → position_from p i xs ≡ None → (j : ℕ)
    → j < length xs → p (get_or xs j d) ≡ false
position_absent p i [] d e j h = absurd (omega arith)
position_absent p i (x ∷ xs) d e zero h =
    false_from_ne_true (p x) (λ is. (let found : Some i ≡ None = rw is at e in cc))
position_absent p i (x ∷ xs) d e (suc j) h = elim (cases_Bool (p x)) [
  | inl is ↦ absurd (let found : Some i ≡ None = rw is at e in cc)
  | inr isnt ↦ position_absent p (i + 1) xs d (rw isnt at e) j (omega arith)
]

-- the first child of a name that is found is one, and where none is found there is none
pub child_is : (rows : List Row) (id : ℕ) (name : List ℕ) (c : ℕ) → child_of rows id name ≡ Some c
    → (c < length rows) × Child rows id name c
child_is rows id name c e =
    let f = position_is (is_child id name) 0 rows c blank e in
    let r = row_at rows f.0 in
    let here : f.0 ≡ c = omega (arith, f.1) in
    let outer = and_parts r.attached (nat_eq r.parent id && bytes_eq r.name name) f.3 in
    let inner = and_parts (nat_eq r.parent id) (bytes_eq r.name name) outer.1 in
    subst (λ n. (n < length rows) × Child rows id name n) here (
      f.2,
      record {
        attached = outer.0;
        parent = same_number r.parent id inner.0;
        named = same_text r.name name (sym inner.1);
      },
    )

pub child_absent : (rows : List Row) → IsShaped rows → (id : ℕ) (name : List ℕ) → child_of rows id name ≡ None
    → (j : ℕ) → Child rows id name j → ⊥
child_absent rows shape id name e j h =
    let isnt = position_absent (is_child id name) 0 rows blank e j (attached_row rows shape j h.attached).1 in
    let is : is_child id name (row_at rows j) ≡ true =
    rw (h.attached, h.parent, h.named)
    (and_from (nat_eq id id) (bytes_eq name name) (grind (arith, nat_tests)) (nat_list_eq_equiv.refl name)) in
    cc

-- a child is found under its path, and what is not found is not there
pub find-ids : (rows : List Row) → IsShaped rows → (k : ℕ) (p ns : Path) → path_below rows 0 k ≡ Some p
    → find_from rows k ns ≡ get (ids rows) (p ++ ns)
find-ids rows shape k p [] at = sym (id_of rows shape k p at) ∙ ap (get (ids rows)) (sym (append-nil p))
find-ids rows shape k p (n ∷ ns) at =
    elim (child_of rows k n)
    as (λ o. child_of rows k n ≡ o → option_and_then (λ j. find_from rows j ns) o ≡ get (ids rows) (p ++ n ∷ ns)) [
      | Some j ↦ λ is.
          find-ids rows shape j (p ++ n ∷ []) ns (child_below rows shape k j p n at (child_is rows k n j is).1)
          ∙ ap (get (ids rows)) (append_assoc p (n ∷ []) ns)
      | None ↦ λ is. sym (nothing (get (ids rows) (p ++ n ∷ ns)) refl is)
    ] refl
  where
    nothing : (o : Option ℕ) → get (ids rows) (p ++ n ∷ ns) ≡ o → child_of rows k n ≡ None → o ≡ None
    nothing None e is = refl
    nothing (Some i) e is =
        let a = above rows shape _ i p n ns refl (id_is rows _ i e).0 in
        let parent = one_row rows shape _ _ 0 (row_at rows a.row).parent k p a.parent_there at in
        absurd (child_absent rows shape k n is a.row
        (record { attached = a.attached; parent = parent; named = a.named }))

pub find-root : (rows : List Row) → IsShaped rows → (q : Path) → find_from rows 0 q ≡ get (ids rows) q
find-root rows shape q = find-ids rows shape 0 [] q (root_live rows shape)

pub find_more : (rows : List Row) (at idx : ℕ) (path : Path) (name : List ℕ) (k : ℕ) → idx < length path
    → name ≡ get_or path idx name → child_of rows at name ≡ Some k
    → find_from rows at (drop idx path) ≡ find_from rows k (drop (idx + 1) path)
find_more rows at idx path name k l is found =
    rw (drop-cons path idx name l, ← is, found)
    (let e : suc idx ≡ idx + 1 = omega arith in ap (λ i. find_from rows k (drop i path)) e)

pub child-ids : (rows : List Row) → IsShaped rows → (k : ℕ) → IsLive rows k → (name : List ℕ)
    → child_of rows k name ≡ get (ids rows) (path_of rows k ++ name ∷ [])
child-ids rows shape k live name =
    last_one (child_of rows k name) ∙ find-ids rows shape k (path_of rows k) (name ∷ []) live
  where
    last_one : (o : Option ℕ) → o ≡ option_and_then (λ j. Some j) o
    last_one None = refl
    last_one (Some j) = refl
