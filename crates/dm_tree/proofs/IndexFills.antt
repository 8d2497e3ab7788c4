-- What is kept beside the rows, where a new row comes in that isn't put in yet.
use Rattle.std.proofs.Common.{not}
use Rattle.dm_tree.proofs.Common.{◌≡◌, ◌≢◌, ℕ, zero, suc, ◌+◌, ◌<◌, ◌≤◌, ◌^◌, Bool, true, false, nat_eq, List, [], ◌∷◌}
use Rattle.dm_tree.proofs.Common.{◌++◌, length, get_or, refl, sym, ◌∙◌, ap, subst, arith, inl, inr, length-append, None}
use Rattle.dm_tree.proofs.Common.{nat_lt, ◌&&◌, if◌then◌else◌, set, length-set, get_or-append, get_or-append_seam}
use Rattle.dm_tree.proofs.Common.{cases_Bool, false_from_ne_true, true_from_ne_false, nat_tests, get_or-set_same}
use Rattle.dm_tree.proofs.Common.{get_or-set_other, get_or_past, get_or_default, Row, blank, row_at, path_below}
use Rattle.dm_tree.proofs.Common.{ids_below, IsShaped, IsTree, ChildList, no_children, children_at, is_parked_below}
use Rattle.dm_tree.proofs.Common.{parked_below, IsChildList, IsIndex, IsSized, IsFreeRow}
use Rattle.dm_tree.proofs.Paths.{same_or_not, below_or_not}
use Rattle.dm_tree.proofs.RowPaths.{not_same}
use Rattle.dm_tree.proofs.IndexLinks.{parked-same, parked-more, parked-some, is_parked, parked_elsewhere, order-alike}
use Rattle.dm_tree.proofs.IndexEdits.{few_parked}
use Rattle.dm_tree.proofs.GivenUpRows.{self_below}
use Rattle.dm_tree.proofs.SamePaths.{no_way, ids_upto}
use Rattle.dm_tree.proofs.NewRows.{IsNewAt, in_place, at_end, each_new, childless, path_out, off_new}

-- a row that was given up and has no list is free
pub free-bare : (rows : List Row) → IsTree rows → (index : List ChildList) → IsIndex rows index → (k : ℕ) → 0 < k
    → k < length rows → (row_at rows k).given_up ≡ true
    → length (children_at index k).ids ≡ 0 → (children_at index k).parked ≡ 0 → IsFreeRow rows k
free-bare rows tree index known k z l given bare none = record {
  below_root = z;
  inside = l;
  out = false_from_ne_true (row_at rows k).attached (λ at. (let not_up = (tree.each k l).attached at in cc));
  given_up = given;
  alone = λ j y p. true_from_ne_false (row_at rows j).given_up (λ held.
      elim (cases_Bool (row_at rows j).attached) [
        | inl at ↦ omega (arith, (list.all j at p).1, bare)
        | inr out ↦ elim (below_or_not j (length rows)) [
          | inl jl ↦
              omega (arith, parked-some rows k (length rows) j jl (is_parked rows k j y out held p), list.parked, none)
          | inr past ↦ omega (arith, z, p, ap (λ (s : Row). s.parent) (get_or_past rows j blank past))
        ]
      ]);
}
  where
    list : IsChildList rows k (children_at index k)
    list = known.each k l

-- there is a number for one more below a row
pub room_below : (rows : List Row) → IsShaped rows → (index : List ChildList) → IsIndex rows index → (k : ℕ)
    → k < length rows → (was : ChildList) → was ≡ get_or index k was → was.parked + 1 < 2 ^ 32
room_below rows shape index known k l was read =
    rw (read ∙ get_or_default index k was no_children (omega (arith, known.same, l)))
    (few_parked rows shape k (children_at index k) (known.each k l))

module _ {rows now : List Row} {id : ℕ} {r : Row} (tree : IsTree rows) (new : IsNewAt rows now id r)
    (out : r.attached ≡ false) (held : r.given_up ≡ false) where
  -- it is parked below its parent
  parked_here : (k : ℕ) → is_parked_below now k id ≡ nat_eq r.parent k
  parked_here k = let z = new.below_root in let pos : nat_lt 0 id ≡ true = grind (arith, nat_tests) in
      rw (new.here, pos, out, held) refl

  parked_beside : (k j : ℕ) → j ≢ id → is_parked_below now k j ≡ is_parked_below rows k j
  parked_beside k j d =
      ap (λ (s : Row). nat_lt 0 j && (not s.attached && (not s.given_up && nat_eq s.parent k))) (new.other j d)

  -- so below that one more row is, and below the others as many as before
  abbrev OneMore : Type 0
  OneMore = (k : ℕ) (b : Bool) → nat_eq r.parent k ≡ b
      → parked_below now k (length now)
      ≡ (if b then suc (parked_below rows k (length rows)) else parked_below rows k (length rows))

  -- a list of the same children, where those that may come in again are counted anew
  list_then : (k : ℕ) (l c : ChildList) → IsChildList rows k l → c.ids ≡ l.ids
      → c.parked ≡ parked_below now k (length now) → length c.ids + c.parked ≤ c.room → IsChildList now k c
  list_then k l c h same is fits =
      subst (λ x. IsChildList now k (record { ids = x; parked = c.parked; room = c.room })) (sym same) (record {
        order = order-alike rows now l.ids (λ i il. ap (λ (s : Row). s.name) (stays i il)) h.order;
        attached = λ i il. ap (λ (s : Row). s.attached) (stays i il) ∙ h.attached i il;
        parent = λ i il. ap (λ (s : Row). s.parent) (stays i il) ∙ h.parent i il;
        all = λ j.
            each_new tree new
            (λ (s : Row). s.attached ≡ true → s.parent ≡ k → (i : ℕ) × (i < length l.ids) × (get_or l.ids i 0 ≡ j)) j
            (λ _ at. absurd (cc)) (λ _ at p. h.all j at p);
        parked = is;
        room = omega (arith, fits, ap length same);
      })
    where
      stays : (i : ℕ) → i < length l.ids → row_at now (get_or l.ids i 0) ≡ row_at rows (get_or l.ids i 0)
      stays i il = new.other (get_or l.ids i 0) (λ e.
          (let at = h.attached i il in let gone = ap (λ j. (row_at rows j).attached) e ∙ new.out in cc))

  -- its parent's list has room for one more; all other lists are as they were
  pub lists_then : OneMore → (index : List ChildList) → length index ≡ length rows → (was c : ChildList)
      → was ≡ get_or index r.parent was → c.ids ≡ was.ids → c.parked ≡ was.parked + 1
      → length c.ids + c.parked ≤ c.room → (k : ℕ) → IsChildList rows k (children_at index k)
      → IsChildList now k (children_at (set index r.parent c) k)
  lists_then counts index long was c read ids parked room k list = elim (same_or_not r.parent k) [
    | inl e ↦
        let more = counts k true (grind (arith, nat_tests)) in
        let there : was ≡ children_at index k =
        read ∙ get_or_default index r.parent was no_children (omega (arith, long, new.parent))
        ∙ ap (children_at index) e in
        subst (IsChildList now k) (sym (ap (λ j. children_at (set index j c) k) e
        ∙ get_or-set_same index k c no_children (omega (arith, long, new.parent, e))))
        (list_then k (children_at index k) c list (ids ∙ ap (λ (x : ChildList). x.ids) there)
        (omega (arith, parked, more, list.parked, ap (λ (x : ChildList). x.parked) there)) room)
    | inr d ↦
        subst (IsChildList now k) (sym (get_or-set_other index r.parent k c no_children (λ e. d (sym e))))
        (list_then k (children_at index k) (children_at index k) list refl
        (list.parked ∙ sym (counts k false (not_same r.parent k d))) list.room)
  ]

-- ---- in place of a free row

module _ (rows : List Row) (tree : IsTree rows) (id : ℕ) (free : IsFreeRow rows id) (r : Row)
    (inside : r.parent < length rows) (out : r.attached ≡ false) (held : r.given_up ≡ false) where
  filled : IsNewAt rows (set rows id r) id r
  filled = in_place rows tree id free r inside

  long : length (set rows id r) ≡ length rows
  long = length-set rows id r

  free_apart : (k : ℕ) → is_parked_below rows k id ≡ false
  free_apart k = let z = free.below_root in let pos : nat_lt 0 id ≡ true = grind (arith, nat_tests) in
      rw (pos, free.out, free.given_up) refl

  filled_counts : OneMore tree filled out held
  filled_counts k true is =
      ap (parked_below (set rows id r) k) long
      ∙ parked-more rows (set rows id r) k (length rows) id free.inside (free_apart k)
      (parked_here tree filled out held k ∙ is) (parked_beside tree filled out held k)
  filled_counts k false is =
      ap (parked_below (set rows id r) k) long ∙ parked-same rows (set rows id r) k (length rows) (λ j l.
      elim (same_or_not j id) [
        | inl e ↦
            subst (λ i. is_parked_below (set rows id r) k i ≡ is_parked_below rows k i) (sym e)
            (parked_here tree filled out held k ∙ is ∙ sym (free_apart k))
        | inr d ↦ parked_beside tree filled out held k j d
      ])

  pub filled_index : (index : List ChildList) → IsIndex rows index → (was c : ChildList)
      → was ≡ get_or index r.parent was → c.ids ≡ was.ids → c.parked ≡ was.parked + 1
      → length c.ids + c.parked ≤ c.room → IsIndex (set rows id r) (set index r.parent c)
  filled_index index known was c read ids parked room = record {
    same = length-set index r.parent c ∙ known.same ∙ sym long;
    each = λ k l.
        lists_then tree filled out held filled_counts index known.same was c read ids parked room k
        (known.each k (omega (arith, l, long)));
  }

  pub filled_sizes : (now : List Row) → now ≡ set rows id r → (sizes : List ℕ) → IsSized rows sizes → IsSized now sizes
  filled_sizes now e sizes sized = subst (λ n. IsSized n sizes) (sym e) (record {
    same = sized.same ∙ sym long;
    each = λ k l.
        sized.each k (omega (arith, l, long))
        ∙ sym (ap (λ n. length (ids_below (set rows id r) k n)) long
        ∙ ap length (ids_upto (set rows id r) rows k (path_out tree filled out k) (length rows)));
  })

-- ---- behind the others

children_grown : (index : List ChildList) (k : ℕ) → children_at (index ++ no_children ∷ []) k ≡ children_at index k
children_grown [] zero = refl
children_grown [] (suc k) = refl
children_grown (c ∷ index) zero = refl
children_grown (c ∷ index) (suc k) = children_grown index k

module _ (rows : List Row) (tree : IsTree rows) (room : length rows + 1 < 2 ^ 32) (r : Row)
    (inside : r.parent < length rows) (out : r.attached ≡ false) (held : r.given_up ≡ false) where
  abbrev longer : List Row
  longer = rows ++ r ∷ []

  added : IsNewAt rows longer (length rows) r
  added = at_end rows tree room r inside

  one_longer : length longer ≡ suc (length rows)
  one_longer = omega (arith, length-append rows (r ∷ []))

  added_counts : OneMore tree added out held
  added_counts k b is =
      let here : is_parked_below longer k (length rows) ≡ b = parked_here tree added out held k ∙ is in
      let before = parked-same rows longer k (length rows) (λ j l.
      parked_beside tree added out held k j (λ e. omega (arith, l, e))) in
      ap (parked_below longer k) one_longer ∙ rw (here, before) refl

  -- nothing lies below its number yet
  none_parked : (m : ℕ) → m ≤ length rows → parked_below rows (length rows) m ≡ 0
  none_parked zero l = refl
  none_parked (suc m) l =
      rw (parked_elsewhere rows (length rows) m (λ p. omega (arith, l, p, tree.shape.inside m (omega arith))))
      (none_parked m (omega (arith, l)))

  none_yet : IsChildList rows (length rows) no_children
  none_yet = record {
    order = λ i j l m. absurd (omega (arith, m));
    attached = λ i l. absurd (omega (arith, l));
    parent = λ i l. absurd (omega (arith, l));
    all = λ j a p. absurd (childless tree added j a p);
    parked = sym (none_parked (length rows) (omega arith));
    room = omega arith;
  }

  pub added_index : (index : List ChildList) → IsIndex rows index → (was c : ChildList)
      → was ≡ get_or index r.parent was → c.ids ≡ was.ids → c.parked ≡ was.parked + 1
      → length c.ids + c.parked ≤ c.room → IsIndex longer (set index r.parent c ++ no_children ∷ [])
  added_index index known was c read ids parked room = record {
    same =
        omega (
          arith,
          one_longer,
          length-append (set index r.parent c) (no_children ∷ []),
          length-set index r.parent c,
          known.same,
        );
    each = λ k l.
        subst (IsChildList longer k) (sym (children_grown (set index r.parent c) k))
        (lists_then tree added out held added_counts index known.same was c read ids parked room k (lists k l));
  }
    where
      lists : (k : ℕ) → k < length longer → IsChildList rows k (children_at index k)
      lists k l = elim (same_or_not k (length rows)) [
        | inl e ↦
            subst (λ i. IsChildList rows i (children_at index i)) (sym e)
            (subst (IsChildList rows (length rows))
            (sym (get_or_past index (length rows) no_children (omega (arith, known.same)))) none_yet)
        | inr d ↦ known.each k (omega (arith, l, d, one_longer))
      ]

  none_below : (n : ℕ) → n ≤ length rows → ids_below rows (length rows) n ≡ []
  none_below zero l = refl
  none_below (suc n) l =
      let off = off_new tree added n (λ e. omega (arith, e, l)) (row_at rows n).depth in
      rw (off, none_below n (omega (arith, l))) refl

  pub added_sizes : (now : List Row) → now ≡ longer → (sizes new : List ℕ) → new ≡ sizes ++ 1 ∷ [] → IsSized rows sizes
      → IsSized now new
  added_sizes now e sizes new f sized = subst (λ n. IsSized n new) (sym e) (subst (IsSized longer) (sym f) (record {
    same = omega (arith, sized.same, length-append sizes (1 ∷ []), one_longer);
    each = λ k l. elim (same_or_not k (length rows)) [
      | inl e ↦
          ap (λ i. get_or (sizes ++ 1 ∷ []) i 0) (e ∙ sym sized.same) ∙ get_or-append_seam sizes 1 [] 0
          ∙ sym (ap (λ i. length (ids_below longer i (length longer))) e ∙ one_more (length rows)
          ∙ rw (self_below rows _ (length rows), none_below (length rows) (omega arith)) refl)
      | inr d ↦
          let none : path_below rows k (length rows) ≡ None =
          no_way rows _ k (length rows) (λ e. d (sym e)) added.out in
          get_or-append sizes (1 ∷ []) 0 k (omega (arith, sized.same, l, d, one_longer))
          ∙ sized.each k (omega (arith, l, d, one_longer)) ∙ sym (one_more k ∙ rw none refl)
    ];
  }))
    where
      one_more : (k : ℕ) → length (ids_below longer k (length longer)) ≡ length (ids_below rows k (suc (length rows)))
      one_more k =
          ap (λ n. length (ids_below longer k n)) one_longer
          ∙ ap length (ids_upto longer rows k (path_out tree added out k) (suc (length rows)))
