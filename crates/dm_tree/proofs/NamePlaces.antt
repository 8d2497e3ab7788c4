-- Where names stand among the children of a row, and what is found there.
use Rattle.std.specs.Prelude.{bytes_eq}
use Rattle.std.specs.List.Sorted.{IsPartitionedBy, IsPartitionPoint}
use Rattle.std.proofs.lemmas.Option.{slice_get-get_or, slice_get_past}
use Rattle.std.specs.Cmp.Lexicographic.{same_text, nat_list_eq_equiv}
use Rattle.dm_tree.specs.Index.{AreRows}
use Rattle.dm_tree.specs.Walks.{comes_after}
use Rattle.dm_tree.proofs.Common.{◌≡◌, ℕ, ◌+◌, ◌-◌, ◌<◌, ◌≤◌, Bool, true, false, nat_eq, List, length, get_or, Option}
use Rattle.dm_tree.proofs.Common.{None, Some, refl, sym, ◌∙◌, ap, subst, arith, inl, inr, ◌&&◌, nat_lt, slice_get}
use Rattle.dm_tree.proofs.Common.{is_lt, and_from, and_parts, false_from_ne_true, nat_tests, get_or_default, Row}
use Rattle.dm_tree.proofs.Common.{row_at, IsShaped, ChildList, no_children, is_named_before, IsInOrder, IsChildList}
use Rattle.dm_tree.proofs.Common.{IsIndex, IsPlace, IsPlacePast, child_of, is_later_child, least_child}
use Rattle.dm_tree.proofs.Common.{slice_get_within, get_or_from_slice_get}
use Rattle.dm_tree.proofs.Paths.{below_or_not, same_or_not}
use Rattle.dm_tree.proofs.RowPaths.{Child, same_number}
use Rattle.dm_tree.proofs.FoundRows.{child_is, child_absent}
use Rattle.dm_tree.proofs.PathOrder.{name_order, name_total, is_less}
use Rattle.dm_tree.proofs.NameOrder.{named_place, not_less_back, other_side}
use Rattle.dm_tree.proofs.IndexLinks.{ids_inside}
use Rattle.dm_tree.proofs.LeastChild.{IsLeastChild, least-is, itself_not_less}

-- behind a child
pub past_child : (rows : List Row) (ids : List ℕ) → IsInOrder rows ids → (place : ℕ) → place < length ids
    → IsPlacePast rows ids (row_at rows (get_or ids place 0)).name (place + 1)
past_child rows ids order place l = record {
  within = omega (arith, l);
  before = λ i m. elim (same_or_not i place) [
    | inl e ↦ rw e (itself_not_less (row_at rows (get_or ids place 0)).name)
    | inr d ↦ not_less_back (row_at rows (get_or ids i 0)).name (row_at rows (get_or ids place 0)).name
        (order i place (omega (arith, m, d)) l)
  ];
  behind = λ i g m. order place i (omega (arith, g)) m;
}

-- ---- the search by halves

module _ (rows : List Row) (ids : List ℕ) (name : List ℕ) (inside : AreRows rows ids) (order : IsInOrder rows ids) where
  abbrev pub before : ℕ → Bool
  before id = nat_lt id (length rows) && is_named_before rows name id

  before_is : (i d : ℕ) → i < length ids → before (get_or ids i d) ≡ is_named_before rows name (get_or ids i 0)
  before_is i d l =
      let h = inside i l in
      let there : nat_lt (get_or ids i 0) (length rows) ≡ true = grind (arith, nat_tests) in
      rw (get_or_default ids i d 0 l, there) refl

  -- what stands before a row that stands before the name does so too
  before_too : (i j : ℕ) → i ≤ j → j < length ids → is_named_before rows name (get_or ids j 0) ≡ true
      → is_named_before rows name (get_or ids i 0) ≡ true
  before_too i j le l h = elim (same_or_not i j) [
    | inl same ↦ rw same h
    | inr other ↦ let a = (row_at rows (get_or ids i 0)).name in let b = (row_at rows (get_or ids j 0)).name in
        ap is_lt (name_total.trans a b name (is_less (name_order a b) (order i j (omega arith) l))
        (is_less (name_order b name) h))
  ]

  pub before_parted : IsPartitionedBy before ids
  before_parted i j d le l h = before_is i d (omega arith) ∙ before_too i j le l (sym (before_is j d l) ∙ h)

  pub place_is : (place : ℕ) → place ≤ length ids
      → IsPartitionPoint (λ y. before y ≡ true) (λ y. before y ≡ false) ids place → IsPlace rows ids name place
  place_is place within point = record {
    within = within;
    before = λ i l. sym (before_is i 0 (omega (arith, l, within))) ∙ point.0 i 0 (omega arith) l;
    behind = λ i g l. sym (before_is i 0 l) ∙ point.1 i 0 g l;
  }

  -- two names confirm a place
  pub confirmed : (place : ℕ) → place ≤ length ids
      → (0 < place → is_named_before rows name (get_or ids (place - 1) 0) ≡ true)
      → (place < length ids → is_named_before rows name (get_or ids place 0) ≡ false)
      → IsPlace rows ids name place
  confirmed place within first second = record {
    within = within;
    before = λ i l. before_too i (place - 1) (omega (arith, l)) (omega (arith, l, within)) (first (omega (arith, l)));
    behind = λ i g l. false_from_ne_true (is_named_before rows name (get_or ids i 0)) (λ yes.
        let no = second (omega (arith, g, l)) in let too = before_too place i g l yes in cc);
  }

-- ---- whether the child at a place bears the name

module _ (rows : List Row) (ids : List ℕ) (name : List ℕ) (place : ℕ) where
  -- no child is there, or it bears another name
  abbrev pub IsUnnamed : Type 0
  IsUnnamed = place < length ids → (row_at rows (get_or ids place 0)).name ≡ name → ⊥

  pub another_there : (id : ℕ) → slice_get ids place ≡ Some id → bytes_eq (row_at rows id).name name ≡ false → IsUnnamed
  another_there id e other l named =
      let same : bytes_eq (row_at rows id).name name ≡ true =
      rw (sym (get_or_from_slice_get ids place id 0 e), named) (nat_list_eq_equiv.refl name) in cc

  pub nothing_there : slice_get ids place ≡ None → IsUnnamed
  nothing_there e l named = let there = slice_get-get_or ids place 0 l in cc

  module _ (order : IsInOrder rows ids) where
    pub past_named : (id : ℕ) → slice_get ids place ≡ Some id → bytes_eq (row_at rows id).name name ≡ true
        → IsPlacePast rows ids name (place + 1)
    past_named id e same =
        subst (λ n. IsPlacePast rows ids n (place + 1))
        (ap (λ k. (row_at rows k).name) (get_or_from_slice_get ids place id 0 e)
        ∙ same_text (row_at rows id).name name (sym same))
        (past_child rows ids order place (slice_get_within ids place id e))

    -- where it doesn't, none does
    pub past_unnamed : IsPlace rows ids name place → IsUnnamed → IsPlacePast rows ids name place
    past_unnamed at other = record {
      within = at.within;
      before = λ i l. not_less_back (row_at rows (get_or ids i 0)).name name (at.before i l);
      behind = λ i g l.
          other_side (row_at rows (get_or ids i 0)).name name (at.behind i g l) (λ e.
          let same = named_place order at i l e in
          other (omega (arith, same, l)) (rw (sym same) e));
    }

-- ---- the child of a name

module _ (rows : List Row) (shape : IsShaped rows) (id : ℕ) (children : ChildList)
    (list : IsChildList rows id children) where
  pub child_read : (place c : ℕ) → slice_get children.ids place ≡ Some c → (name : List ℕ)
      → bytes_eq (row_at rows c).name name ≡ true → Some c ≡ child_of rows id name
  child_read place c e name same =
      elim (child_of rows id name) as (λ o. child_of rows id name ≡ o → Some c ≡ o) [
        | Some d ↦ λ is. let other = (child_is rows id name d is).1 in
            ap (λ n. Some n)
            (shape.no_twins c d child.attached other.attached (child.parent ∙ sym other.parent)
            (child.named ∙ sym other.named))
        | None ↦ λ is. absurd (child_absent rows shape id name is c child)
      ] refl
    where
      child : Child rows id name c
      child =
          let l = slice_get_within children.ids place c e in
          let here = get_or_from_slice_get children.ids place c 0 e in
          record {
            attached = rw here at (list.attached place l);
            parent = rw here at (list.parent place l);
            named = same_text (row_at rows c).name name (sym same);
          }

  pub no_child_there : (name : List ℕ) (place : ℕ) → IsPlace rows children.ids name place
      → IsUnnamed rows children.ids name place → None ≡ child_of rows id name
  no_child_there name place at other =
      elim (child_of rows id name) as (λ o. child_of rows id name ≡ o → None ≡ o) [
        | Some c ↦ λ is.
            let child = (child_is rows id name c is).1 in
            let there = list.all c child.attached child.parent in
            let named : (row_at rows (get_or children.ids there.0 0)).name ≡ name = rw there.2 child.named in
            let same = named_place list.order at there.0 there.1 named in
            absurd (other (omega (arith, same, there.1)) (rw (sym same) named))
        | None ↦ λ _. refl
      ] refl

  -- ---- the child behind a row

  -- the first place whose row comes after a row, or any
  pub record IsPlaceAfter (after : Option ℕ) (place : ℕ) : Type 0 where
    pub before : (i : ℕ) → i < place → comes_after rows after (row_at rows (get_or children.ids i 0)).name ≡ false
    pub behind : (i : ℕ) → place ≤ i → i < length children.ids
        → comes_after rows after (row_at rows (get_or children.ids i 0)).name ≡ true

  pub first_place : IsPlaceAfter None 0
  first_place = record { before = λ i l. absurd (omega arith); behind = λ i g l. refl }

  pub past_place : (k place : ℕ) → IsPlacePast rows children.ids (row_at rows k).name place
      → IsPlaceAfter (Some k) place
  past_place k place is = record { before = is.before; behind = is.behind }

  pub least_found : (after : Option ℕ) (place : ℕ) → IsPlaceAfter after place
      → slice_get children.ids place ≡ least_child rows id after (length rows)
  least_found after place is = by_least (least_child rows id after (length rows)) (least-is rows id after (length rows))
    where
      -- from the place on, each is a later child
      later : (i : ℕ) → place ≤ i → i < length children.ids
          → is_later_child rows id after (row_at rows (get_or children.ids i 0)) ≡ true
      later i g l =
          rw (list.attached i l, list.parent i l, is.behind i g l)
          (and_from (nat_eq id id) true (grind (arith, nat_tests)) refl)

      -- and each later child stands there
      stands : (j : ℕ) → is_later_child rows id after (row_at rows j) ≡ true
          → (i : ℕ) × (place ≤ i) × (i < length children.ids) × (get_or children.ids i 0 ≡ j)
      stands j later_one =
          let r = row_at rows j in
          let outer = and_parts r.attached (nat_eq r.parent id && comes_after rows after r.name) later_one in
          let inner = and_parts (nat_eq r.parent id) (comes_after rows after r.name) outer.1 in
          let there = list.all j outer.0 (same_number r.parent id inner.0) in
          elim (below_or_not there.0 place) [
            | inl early ↦
                let no : comes_after rows after r.name ≡ false = rw there.2 at (is.before there.0 early) in absurd (cc)
            | inr late ↦ (there.0, late, there.1, there.2)
          ]

      by_least : (o : Option ℕ) → IsLeastChild rows id after (length rows) o → slice_get children.ids place ≡ o
      by_least None none = elim (below_or_not place (length children.ids)) [
        | inl l ↦
            let no = none (get_or children.ids place 0) (ids_inside rows id children list place l) in
            let yes = later place (omega arith) l in absurd (cc)
        | inr g ↦ slice_get_past children.ids place g
      ]
      by_least (Some c) least =
          let s = stands c least.child in
          let l : place < length children.ids = omega (arith, s.1, s.2) in
          let here : s.0 ≡ place = elim (same_or_not s.0 place) [
            | inl e ↦ e
            | inr d ↦
                let no =
                least.least (get_or children.ids place 0) (ids_inside rows id children list place l)
                (later place (omega arith) l) in
                let yes = rw s.3 at (list.order place s.0 (omega (arith, s.1, d)) s.2) in absurd (cc)
          ] in
          slice_get-get_or children.ids place 0 l ∙ ap (λ n. Some n) (rw here at s.3)

-- the children as they were read
pub list_read : (rows : List Row) (index : List ChildList) → IsIndex rows index → (id : ℕ) → id < length rows
    → (children : ChildList) → children ≡ get_or index id children → IsChildList rows id children
list_read rows index is id inside children e =
    subst (IsChildList rows id)
    (sym (e ∙ get_or_default index id children no_children (omega (arith, inside, is.same)))) (is.each id inside)
