-- A list of rows in the order of their names: where a row stands, one more, and one fewer.
use Rattle.std.proofs.Common.{min}
use Rattle.std.specs.List.{insert, remove}
use Rattle.std.proofs.lemmas.Bool.{cases_order}
use Rattle.std.proofs.lemmas.List.Edits.{length-insert, get_or-insert_below, get_or-insert_at, get_or-insert_above}
use Rattle.std.proofs.lemmas.List.Edits.{length-remove, get_or-remove_below, get_or-remove_above}
use Rattle.dm_tree.proofs.Common.{◌≡◌, ℕ, suc, ◌+◌, ◌-◌, ◌<◌, ◌≤◌, true, false, List, length, get_or, refl, sym, ◌∙◌}
use Rattle.dm_tree.proofs.Common.{ap, subst, arith, ◌⊎◌, inl, inr, is_lt, ordering_reverse, Ordering, Less, Equal}
use Rattle.dm_tree.proofs.Common.{Greater, Row, row_at, is_named_before, IsInOrder, IsPlace}
use Rattle.dm_tree.proofs.Paths.{below_or_not}
use Rattle.dm_tree.proofs.PathOrder.{name_order, name_total, name_exact}
use Rattle.dm_tree.proofs.LeastChild.{itself_not_less, not_before_less}

-- of two names that differ, one stands before the other
pub other_side : (a b : List ℕ) → is_lt (name_order a b) ≡ false → (a ≡ b → ⊥) → is_lt (name_order b a) ≡ true
other_side a b h differ =
    ap is_lt (name_total.antisymm b a) ∙ by_order (name_order a b) h (λ e. differ (name_exact a b e))
  where
    by_order : (o : Ordering) → is_lt o ≡ false → (o ≡ Equal → ⊥) → is_lt (ordering_reverse o) ≡ true
    by_order Less h d = absurd (cc)
    by_order Equal h d = absurd (d refl)
    by_order Greater h d = refl

pub not_less_back : (a b : List ℕ) → is_lt (name_order a b) ≡ true → is_lt (name_order b a) ≡ false
not_less_back a b h = not_before_less b b a (itself_not_less b) h

-- ---- a row of a name stands at the place of the name

pub named_place : {rows : List Row} {ids name : List ℕ} {place : ℕ} → IsInOrder rows ids → IsPlace rows ids name place
    → (i : ℕ) → i < length ids → (row_at rows (get_or ids i 0)).name ≡ name → i ≡ place
named_place {name = name} {place} order at i l e = elim (cases_order i place) [
  | inl same ↦ same
  | inr other ↦ absurd (elim other [
    | inl m ↦ let yes = rw e at (at.before i m) in let no = itself_not_less name in cc
    | inr m ↦
        let yes = rw e at (order place i m l) in
        let no = at.behind place (omega arith) (omega (arith, m, l)) in cc
  ])
]

-- ---- one more, and one fewer

-- the row j stands in the list
abbrev pub Listed : List ℕ → ℕ → Type 0
Listed ids j = (i : ℕ) × (i < length ids) × (get_or ids i 0 ≡ j)

-- which place the i-th is once one more stands at a place
abbrev moved : ℕ → ℕ → ℕ
moved place i = i + min 1 (suc i - place)

-- the second list is the first with the row id at a place
pub record HasMore (ids more : List ℕ) (place id : ℕ) : Type 0 where
  pub within : place ≤ length ids
  pub long : length more ≡ suc (length ids)
  pub here : get_or more place 0 ≡ id
  pub below : (i : ℕ) → i < place → get_or more i 0 ≡ get_or ids i 0
  pub above : (i : ℕ) → place ≤ i → get_or more (i + 1) 0 ≡ get_or ids i 0

pub inserted : (ids : List ℕ) (place id : ℕ) → place ≤ length ids → HasMore ids (insert ids place id) place id
inserted ids place id within = record {
  within = within;
  long = omega (arith, length-insert ids place id within);
  here = get_or-insert_at ids place id 0 within;
  below = λ i l. get_or-insert_below ids place id 0 i l within;
  above = λ i g. get_or-insert_above ids place id 0 i g within;
}

pub removed : (ids : List ℕ) (place id : ℕ) → place < length ids → get_or ids place 0 ≡ id
    → HasMore (remove ids place) ids place id
removed ids place id within here = record {
  within = omega (arith, length-remove ids place within);
  long = omega (arith, length-remove ids place within);
  here = here;
  below = λ i l. sym (get_or-remove_below ids place 0 i l within);
  above = λ i g. sym (get_or-remove_above ids place 0 i g within);
}

module _ {ids more : List ℕ} {place id : ℕ} (h : HasMore ids more place id) where
  -- what stands at the m-th place of the longer list
  data Stands : ℕ → ℕ → Type 0 where
    new : Stands place id
    old : (i m : ℕ) → i < length ids → m ≡ moved place i → Stands m (get_or ids i 0)

  stands : (m : ℕ) → m < length more → Stands m (get_or more m 0)
  stands m l = elim (cases_order m place) [
    | inl e ↦ subst (λ n. Stands n (get_or more n 0)) (sym e) (subst (Stands place) (sym h.here) new)
    | inr other ↦ elim other [
      | inl b ↦
          subst (Stands m) (sym (h.below m b)) (old m m (omega (arith, b, h.within)) (omega arith))
      | inr g ↦
          let e : m - 1 + 1 ≡ m = omega arith in
          subst (Stands m) (sym (h.above (m - 1) (omega arith)) ∙ ap (λ n. get_or more n 0) e)
          (old (m - 1) m (omega (arith, h.long)) (omega arith))
    ]
  ]

  -- where the i-th of the shorter one stands
  up : (i : ℕ) → i < length ids
      → (m : ℕ) × (m ≡ moved place i) × (m < length more) × (get_or more m 0 ≡ get_or ids i 0)
  up i l = elim (below_or_not i place) [
    | inl b ↦ (i, omega arith, omega (arith, h.long), h.below i b)
    | inr g ↦ (i + 1, omega arith, omega (arith, h.long), h.above i g)
  ]

  pub new_listed : Listed more id
  new_listed = (place, omega (arith, h.within, h.long), h.here)

  pub still_listed : (j : ℕ) → Listed ids j → Listed more j
  still_listed j was = let u = up was.0 was.1 in (u.0, u.2, u.3 ∙ was.2)

  pub was_listed : (j : ℕ) → Listed more j → (j ≡ id) ⊎ Listed ids j
  was_listed j is = subst (λ k. (k ≡ id) ⊎ Listed ids k) is.2 (by_place (stands is.0 is.1))
    where
      by_place : {m k : ℕ} → Stands m k → (k ≡ id) ⊎ Listed ids k
      by_place new = inl refl
      by_place (old i m l e) = inr (i, l, refl)

  module _ (rows : List Row) where
    pub order_more : IsInOrder rows ids → IsPlace rows ids (row_at rows id).name place
        → ((j : ℕ) → Listed ids j → (row_at rows j).name ≡ (row_at rows id).name → ⊥) → IsInOrder rows more
    order_more order at differ m n l k = by_places (stands m (omega arith)) (stands n k) l
      where
        by_places : {m n j k : ℕ} → Stands m j → Stands n k → m < n
            → is_named_before rows (row_at rows k).name j ≡ true
        by_places new new l = absurd (omega arith)
        by_places new (old j n k e) l =
            other_side (row_at rows (get_or ids j 0)).name (row_at rows id).name
            (at.behind j (omega (arith, l, e)) k) (differ (get_or ids j 0) (j, k, refl))
        by_places (old i m k e) new l = at.before i (omega (arith, l, e))
        by_places (old i m k e) (old j n g f) l = order i j (omega (arith, l, e, f)) g

    pub order_fewer : IsInOrder rows more → IsInOrder rows ids
    order_fewer order i j l k =
        let a = up i (omega (arith, l, k)) in
        let b = up j k in
        rw (sym a.3, sym b.3) (order a.0 b.0 (omega (arith, l, a.1, b.1)) b.2)

    -- no row stands in it twice
    pub once : IsInOrder rows more → Listed ids id → ⊥
    once order was =
        let u = up was.0 was.1 in
        let no = itself_not_less (row_at rows id).name in
        elim (cases_order u.0 place) [
          | inl e ↦ omega (arith, e, u.1)
          | inr other ↦ elim other [
            | inl m ↦ let yes = rw (u.3 ∙ was.2, h.here) at (order u.0 place m (omega (arith, h.within, h.long))) in cc
            | inr m ↦ let yes = rw (u.3 ∙ was.2, h.here) at (order place u.0 m u.2) in cc
          ]
        ]
