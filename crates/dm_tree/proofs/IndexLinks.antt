-- The index of children, when a row is written anew, put in, or taken out.
use Rattle.std.specs.List.{insert, remove}
use Rattle.std.proofs.lemmas.Bool.{cond_both, not-true}
use Rattle.dm_tree.proofs.Common.{◌≡◌, ◌≢◌, ℕ, zero, suc, ◌+◌, ◌-◌, ◌<◌, ◌≤◌, Bool, true, false, nat_eq, List, length}
use Rattle.dm_tree.proofs.Common.{get_or, refl, sym, ◌∙◌, ap, subst, arith, inl, inr, ◌&&◌, not, nat_lt, if◌then◌else◌}
use Rattle.dm_tree.proofs.Common.{set, length-set, and_parts, cases_Bool, false_from_ne_true, nat_tests}
use Rattle.dm_tree.proofs.Common.{get_or-set_same, get_or-set_other, get_or_past, get_or_default, Row, blank, row_at}
use Rattle.dm_tree.proofs.Common.{IsShaped, attached_as, ChildList, no_children, children_at, is_parked_below}
use Rattle.dm_tree.proofs.Common.{parked_below, IsInOrder, IsChildList, IsIndex, IsPlace, IsPut, CanBeTakenOut}
use Rattle.dm_tree.proofs.Common.{set-get_or}
use Rattle.dm_tree.proofs.Common.{set-set}
use Rattle.dm_tree.proofs.Paths.{below_or_not, same_or_not}
use Rattle.dm_tree.proofs.RowPaths.{same_number}
use Rattle.dm_tree.proofs.NodeEdits.{each_member, each_set, of_both}
use Rattle.dm_tree.proofs.NameOrder.{named_place, Listed, HasMore, inserted, removed, new_listed, still_listed}
use Rattle.dm_tree.proofs.NameOrder.{was_listed, order_more, order_fewer, once}

-- ---- how many are parked

pub parked-same : (rows rows' : List Row) (k n : ℕ)
    → ((j : ℕ) → j < n → is_parked_below rows' k j ≡ is_parked_below rows k j)
    → parked_below rows' k n ≡ parked_below rows k n
parked-same rows rows' k zero same = refl
parked-same rows rows' k (suc n) same =
    rw (same n (omega arith), parked-same rows rows' k n (λ j l. same j (omega (arith, l)))) refl

-- one row is parked below k that wasn't before
pub parked-more : (rows rows' : List Row) (k n m : ℕ) → m < n → is_parked_below rows k m ≡ false
    → is_parked_below rows' k m ≡ true
    → ((j : ℕ) → j ≢ m → is_parked_below rows' k j ≡ is_parked_below rows k j)
    → parked_below rows' k n ≡ suc (parked_below rows k n)
parked-more rows rows' k zero m l before after same = absurd (omega (arith, l))
parked-more rows rows' k (suc n) m l before after same =
    elim (same_or_not n m) [
      | inl e ↦
          rw (e, before, after) (ap suc (parked-same rows rows' k m (λ j h. same j (λ f. omega (arith, h, f)))))
      | inr d ↦
          let rec = parked-more rows rows' k n m (omega (arith, l, d)) before after same in
          rw (same n d, rec) (suc_either (is_parked_below rows k n) (parked_below rows k n))
    ]
  where
    suc_either : (b : Bool) (i : ℕ) → (if b then suc (suc i) else suc i) ≡ suc (if b then suc i else i)
    suc_either true i = refl
    suc_either false i = refl

-- the root is never parked, so fewer are than there are rows
pub parked-few : (rows : List Row) (k n : ℕ) → 0 < n → parked_below rows k n < n
parked-few rows k zero h = absurd (omega (arith, h))
parked-few rows k (suc zero) h = omega arith
parked-few rows k (suc (suc n)) h =
    let fewer = parked-few rows k (suc n) (omega arith) in
    cond_both (is_parked_below rows k (suc n)) _ _ (λ i. i < suc (suc n)) (λ _. omega (arith, fewer))
    (λ _. omega (arith, fewer))

pub parked-some : (rows : List Row) (k n m : ℕ) → m < n → is_parked_below rows k m ≡ true → 0 < parked_below rows k n
parked-some rows k zero m l is = absurd (omega (arith, l))
parked-some rows k (suc n) m l is = elim (cases_Bool (is_parked_below rows k n)) [
  | inl parked ↦ rw parked (omega arith)
  | inr other ↦
      let apart : n ≢ m = λ e. (let same = ap (is_parked_below rows k) e ∙ is in cc) in
      rw other (parked-some rows k n m (omega (arith, l, apart)) is)
]

-- what `is_parked_below` asks of the row itself
abbrev pub is_parked_row : ℕ → ℕ → Row → Bool
is_parked_row k j s = nat_lt 0 j && (not s.attached && (not s.given_up && nat_eq s.parent k))

pub is_parked : (rows : List Row) (k j : ℕ) → 0 < j → (row_at rows j).attached ≡ false
    → (row_at rows j).given_up ≡ false → (row_at rows j).parent ≡ k → is_parked_below rows k j ≡ true
is_parked rows k j z a g p = let t : nat_lt 0 j ≡ true = grind (arith, nat_tests) in
    let s : nat_eq k k ≡ true = grind (arith, nat_tests) in rw (t, a, g, p, s) refl

pub isnt_parked : (k j : ℕ) (s : Row) → (s.attached ≡ false → s.given_up ≡ false → s.parent ≡ k → ⊥)
    → is_parked_row k j s ≡ false
isnt_parked k j s isnt = false_from_ne_true (is_parked_row k j s) (λ is.
    let a = and_parts (nat_lt 0 j) (not s.attached && (not s.given_up && nat_eq s.parent k)) is in
    let b = and_parts (not s.attached) (not s.given_up && nat_eq s.parent k) a.1 in
    let c = and_parts (not s.given_up) (nat_eq s.parent k) b.1 in
    isnt (not-true s.attached b.0) (not-true s.given_up c.0) (same_number s.parent k c.1))

pub parked_elsewhere : (rows : List Row) (k j : ℕ) → ((row_at rows j).parent ≡ k → ⊥) → is_parked_below rows k j ≡ false
parked_elsewhere rows k j other = isnt_parked k j (row_at rows j) (λ _ _. other)

-- ---- the children of a row whose children are the same rows

-- the order of rows that keep their names
pub order-alike : (rows rows' : List Row) (ids : List ℕ)
    → ((i : ℕ) → i < length ids → (row_at rows' (get_or ids i 0)).name ≡ (row_at rows (get_or ids i 0)).name)
    → IsInOrder rows ids → IsInOrder rows' ids
order-alike rows rows' ids same order i j l m =
    rw (same i (omega (arith, l, m)), same j m) (order i j l m)

-- the row stands right below the row k
abbrev pub StandsBelow : ℕ → Row → Type 0
StandsBelow k s = (s.attached ≡ true) × (s.parent ≡ k)

-- the row t stands below the row k if s does, under the same name
pub record StaysBelow (k : ℕ) (s t : Row) : Type 0 where
  pub still : StandsBelow k s → StandsBelow k t × (t.name ≡ s.name)
  pub back : StandsBelow k t → StandsBelow k s

pub neither_below : (k : ℕ) (s t : Row) → (StandsBelow k s → ⊥) → (StandsBelow k t → ⊥) → StaysBelow k s t
neither_below k s t isnt isnt' = record { still = λ is. absurd (isnt is); back = λ is. absurd (isnt' is) }

pub itself_below : (k : ℕ) (s : Row) → StaysBelow k s s
itself_below k s = record { still = λ is. (is, refl); back = λ is. is }

-- where the same rows stand below the row k, its list has the same numbers; how many are parked, and the room, may be
-- others
pub same_children : (rows rows' : List Row) (k : ℕ) → ((j : ℕ) → StaysBelow k (row_at rows j) (row_at rows' j))
    → (c : ChildList) → IsChildList rows k c → (parked room : ℕ) → parked ≡ parked_below rows' k (length rows')
    → length c.ids + parked ≤ room → IsChildList rows' k (record { ids = c.ids; parked = parked; room = room })
same_children rows rows' k same c h parked room is fits = record {
  order = order-alike rows rows' c.ids (λ i l. (stays i l).1) h.order;
  attached = λ i l. (stays i l).0.0;
  parent = λ i l. (stays i l).0.1;
  all = λ j a p. let was = (same j).back (a, p) in h.all j was.0 was.1;
  parked = is;
  room = fits;
}
  where
    stays : (i : ℕ) → i < length c.ids → StandsBelow k (row_at rows' (get_or c.ids i 0))
        × ((row_at rows' (get_or c.ids i 0)).name ≡ (row_at rows (get_or c.ids i 0)).name)
    stays i l = (same (get_or c.ids i 0)).still (h.attached i l, h.parent i l)

-- one row's children are others, and those of the other rows stay
pub index_set : (rows rows' : List Row) (index : List ChildList) (p : ℕ) (c : ChildList) → IsIndex rows index
    → length rows' ≡ length rows → p < length rows → IsChildList rows' p c
    → ((k : ℕ) → k ≢ p → IsChildList rows k (children_at index k) → IsChildList rows' k (children_at index k))
    → IsIndex rows' (set index p c)
index_set rows rows' index p c h long inside here others = record {
  same = length-set index p c ∙ h.same ∙ sym long;
  each = λ k l.
      each_member index p c no_children (omega (arith, inside, h.same)) (IsChildList rows' k) k
      (λ e. subst (λ n. IsChildList rows' n c) (sym e) here)
      (λ d. others k d (h.each k (omega (arith, l, long))));
}

-- ---- a row is written anew

module _ (rows : List Row) (id : ℕ) (r : Row) (inside : id < length rows) where
  -- the same rows stand below the row k
  pub children_anew : (k : ℕ) → StaysBelow k (row_at rows id) r → (c : ChildList) → IsChildList rows k c
      → (parked room : ℕ) → parked ≡ parked_below (set rows id r) k (length (set rows id r))
      → length c.ids + parked ≤ room
      → IsChildList (set rows id r) k (record { ids = c.ids; parked = parked; room = room })
  children_anew k same = same_children rows (set rows id r) k (λ j.
      each_set rows id r inside (StaysBelow k (row_at rows j)) j
      (λ e. rw e same) (λ _. itself_below k (row_at rows j)))

  -- where the row is parked below k as it was, as many are
  children_kept : (k : ℕ) → StaysBelow k (row_at rows id) r → is_parked_row k id r ≡ is_parked_row k id (row_at rows id)
      → (c : ChildList) → IsChildList rows k c → IsChildList (set rows id r) k c
  children_kept k same as_before c h =
      children_anew k same c h c.parked c.room
      (rw (length-set rows id r)
      (h.parked ∙ sym (parked-same rows (set rows id r) k (length rows) (λ j _.
      each_set rows id r inside (λ s. is_parked_row k j s ≡ is_parked_row k j (row_at rows j)) j
      (λ e. rw e as_before) (λ _. refl))))) h.room

  -- the row was parked below k, and no longer is
  pub one_fewer : (k : ℕ) → is_parked_row k id (row_at rows id) ≡ true → is_parked_row k id r ≡ false
      → parked_below rows k (length rows) ≡ suc (parked_below (set rows id r) k (length (set rows id r)))
  one_fewer k was isnt =
      rw (length-set rows id r) (parked-more (set rows id r) rows k (length rows) id inside
      (rw (get_or-set_same rows id r blank inside) isnt) was
      (λ j d. ap (is_parked_row k j) (sym (get_or-set_other rows id j r blank d))))

  -- where it was put in, taken out or given up, only the list of its parent is another
  pub index_anew : r.parent ≡ (row_at rows id).parent → (index : List ChildList) → IsIndex rows index
      → (row_at rows id).parent < length rows → (c : ChildList)
      → IsChildList (set rows id r) (row_at rows id).parent c
      → IsIndex (set rows id r) (set index (row_at rows id).parent c)
  index_anew e index h above c here =
      index_set rows (set rows id r) index (row_at rows id).parent c h (length-set rows id r) above here (λ k d.
      children_kept k
      (neither_below k (row_at rows id) r (λ is. d (sym is.1)) (λ is. d (sym is.1 ∙ e)))
      (isnt_parked k id r (λ _ _ p. d (sym p ∙ e)) ∙ sym (isnt_parked k id (row_at rows id) (λ _ _ p. d (sym p))))
      (children_at index k))

  -- it is linked as it was; where it isn't attached, it may bear any name
  pub index_kept : r.parent ≡ (row_at rows id).parent → r.attached ≡ (row_at rows id).attached
      → r.given_up ≡ (row_at rows id).given_up
      → ((row_at rows id).attached ≡ true → r.name ≡ (row_at rows id).name)
      → (index : List ChildList) → IsIndex rows index → IsIndex (set rows id r) index
  index_kept p a g n index h = record {
    same = h.same ∙ sym (length-set rows id r);
    each = λ k l.
        children_kept k
        (record { still = λ is. ((a ∙ is.0, p ∙ is.1), n is.0); back = λ is. (sym a ∙ is.0, sym p ∙ is.1) })
        (rw (a, g, p) refl) (children_at index k) (h.each k (omega (arith, l, length-set rows id r)));
  }

  -- it may be put in, if that keeps the shape
  pub put_anew : 0 < id → r.attached ≡ false → r.given_up ≡ false
      → IsShaped (set rows id (record r { attached = true })) → IsPut (set rows id r) id
  put_anew z out held shape = record {
    inside = omega (arith, length-set rows id r, inside);
    below_root = z;
    out = rw (get_or-set_same rows id r blank inside) out;
    held = rw (get_or-set_same rows id r blank inside) held;
    shaped = rw (get_or-set_same rows id r blank inside, set-set rows id r) shape;
  }

-- ---- a row is put in, and taken out

abbrev pub put_list : ChildList → ℕ → ℕ → ChildList
put_list c place id = record c { ids = insert c.ids place id; parked = c.parked - 1 }

abbrev pub taken_list : ChildList → ℕ → ChildList
taken_list c place = record c { ids = remove c.ids place; parked = c.parked + 1 }

-- each row that is listed stands below the row k
child_below : (rows : List Row) (k : ℕ) (c : ChildList) → IsChildList rows k c → (j : ℕ) → Listed c.ids j
    → StandsBelow k (row_at rows j)
child_below rows k c h j is =
    subst (λ n. StandsBelow k (row_at rows n)) is.2 (h.attached is.0 is.1, h.parent is.0 is.1)

-- a child stands at the place of its name
pub child_place : (rows : List Row) (k : ℕ) (c : ChildList) → IsChildList rows k c → (j : ℕ)
    → (row_at rows j).attached ≡ true → (row_at rows j).parent ≡ k
    → (place : ℕ) → IsPlace rows c.ids (row_at rows j).name place → (place < length c.ids) × (get_or c.ids place 0 ≡ j)
child_place rows k c h j a p place at =
    let is = h.all j a p in
    let here = named_place h.order at is.0 is.1 (ap (λ n. (row_at rows n).name) is.2) in
    (omega (arith, here, is.1), ap (λ n. get_or c.ids n 0) (sym here) ∙ is.2)

module _ (rows : List Row) (id : ℕ) (put : IsPut rows id) where
  -- the rows once it is put in
  abbrev joined : List Row
  joined = attached_as rows id true

  abbrev r : Row
  r = record (row_at rows id) { attached = true }

  here : row_at joined id ≡ r
  here = get_or-set_same rows id r blank put.inside

  name : (j : ℕ) → (row_at joined j).name ≡ (row_at rows j).name
  name j = of_both rows id r (λ s. s.name) refl j put.inside

  pub parent_inside : (row_at rows id).parent < length rows
  parent_inside =
      rw (here, length-set rows id r) at (put.shaped.inside id (omega (arith, put.inside, length-set rows id r)))

  module _ (p : ℕ) (above : (row_at rows id).parent ≡ p) where
    fewer : parked_below rows p (length rows) ≡ suc (parked_below joined p (length joined))
    fewer =
        one_fewer rows id r put.inside p (is_parked rows p id put.below_root put.out put.held above)
        (isnt_parked p id r (λ out _ _. absurd (cc)))

    pub put_children : (c : ChildList) → IsChildList rows p c → (place : ℕ)
        → IsPlace rows c.ids (row_at rows id).name place → IsChildList joined p (put_list c place id)
    put_children c h place at = record {
      order =
          order-alike rows joined ids (λ i l. name (get_or ids i 0)) (order_more more rows h.order at (λ j is e.
          apart j is
          (put.shaped.no_twins j id (still j is).0 (ap (λ (s : Row). s.attached) here)
          ((still j is).1 ∙ sym above ∙ sym (ap (λ (s : Row). s.parent) here)) (name j ∙ e ∙ sym (name id)))));
      attached = λ i l. (child (get_or ids i 0) (i, l, refl)).0;
      parent = λ i l. (child (get_or ids i 0) (i, l, refl)).1;
      all = λ j a q.
          each_set rows id r put.inside (λ s. StandsBelow p s → Listed ids j) j
          (λ e _. subst (Listed ids) (sym e) (new_listed more))
          (λ _ is. still_listed more j (h.all j is.0 is.1)) (a, q);
      parked = omega (arith, h.parked, fewer);
      room = omega (arith, h.room, h.parked, fewer, more.long);
    }
      where
        ids : List ℕ
        ids = insert c.ids place id

        more : HasMore c.ids ids place id
        more = inserted c.ids place id at.within

        apart : (j : ℕ) → Listed c.ids j → j ≢ id
        apart j is e = let yes = (child_below rows p c h j is).0 in
            let no : (row_at rows j).attached ≡ false = rw e put.out in cc

        still : (j : ℕ) → Listed c.ids j → StandsBelow p (row_at joined j)
        still j is = rw (get_or-set_other rows id j r blank (apart j is)) (child_below rows p c h j is)

        child : (j : ℕ) → Listed ids j → StandsBelow p (row_at joined j)
        child j is = elim (was_listed more j is) [ inl e ↦ rw (e, here) (refl, above) | inr was ↦ still j was ]

    pub taken_children : (c : ChildList) → IsChildList joined p c → (place : ℕ) → place < length c.ids
        → get_or c.ids place 0 ≡ id → IsChildList rows p (taken_list c place)
    taken_children c h place within at = record {
      order = order-alike joined rows ids (λ i l. sym (name (get_or ids i 0))) (order_fewer more joined h.order);
      attached = λ i l. (child (get_or ids i 0) (i, l, refl)).0;
      parent = λ i l. (child (get_or ids i 0) (i, l, refl)).1;
      all = λ j a q.
          let apart : j ≢ id = λ e. (let no : (row_at rows j).attached ≡ false = rw e put.out in cc) in
          let is : StandsBelow p (row_at joined j) = rw (get_or-set_other rows id j r blank apart) (a, q) in
          elim (was_listed more j (h.all j is.0 is.1)) [ inl e ↦ absurd (apart e) | inr was ↦ was ];
      parked = omega (arith, h.parked, fewer);
      room = omega (arith, h.room, more.long);
    }
      where
        ids : List ℕ
        ids = remove c.ids place

        more : HasMore ids c.ids place id
        more = removed c.ids place id within at

        child : (j : ℕ) → Listed ids j → StandsBelow p (row_at rows j)
        child j is =
            let apart : j ≢ id = λ e. once more joined h.order (subst (Listed ids) e is) in
            rw (get_or-set_other rows id j r blank apart) at (child_below joined p c h j (still_listed more j is))

  -- that row is parked below its parent
  pub one_parked : (c : ChildList) → IsChildList rows (row_at rows id).parent c → 0 < c.parked
  one_parked c h = omega (arith, h.parked, fewer (row_at rows id).parent refl)

  pub put_index : (index : List ChildList) → IsIndex rows index → (place : ℕ)
      → IsPlace rows (children_at index (row_at rows id).parent).ids (row_at rows id).name place
      → IsIndex joined
      (set index (row_at rows id).parent (put_list (children_at index (row_at rows id).parent) place id))
  put_index index h place at =
      index_anew rows id r put.inside refl index h parent_inside
      (put_list (children_at index (row_at rows id).parent) place id)
      (put_children (row_at rows id).parent refl (children_at index (row_at rows id).parent)
      (h.each (row_at rows id).parent parent_inside) place at)

pub taken_index : (rows : List Row) (index : List ChildList) (id : ℕ) → CanBeTakenOut rows id → IsIndex rows index
    → (place : ℕ) → IsPlace rows (children_at index (row_at rows id).parent).ids (row_at rows id).name place
    → IsIndex (attached_as rows id false)
    (set index (row_at rows id).parent (taken_list (children_at index (row_at rows id).parent) place))
taken_index rows index id taken h place at =
    let p = (row_at rows id).parent in
    let c = children_at index p in
    let r : Row = record (row_at rows id) { attached = false } in
    let above = taken.shaped.inside id taken.inside in
    let found = child_place rows p c (h.each p above) id taken.attached refl place at in
    let again : set rows id (record (row_at rows id) { attached = true }) ≡ rows =
    ap (λ b. set rows id (record (row_at rows id) { attached = b })) (sym taken.attached) ∙ set-get_or rows id blank in
    let put =
    put_anew rows id r taken.inside taken.below_root refl taken.held (subst IsShaped (sym again) taken.shaped) in
    let back : attached_as (attached_as rows id false) id true ≡ rows =
    rw (get_or-set_same rows id r blank taken.inside, set-set rows id r) again in
    index_anew rows id r taken.inside refl index h above (taken_list c place)
    (taken_children (attached_as rows id false) id put p
    (ap (λ (s : Row). s.parent) (get_or-set_same rows id r blank taken.inside)) c
    (subst (λ rs. IsChildList rs p c) (sym back) (h.each p above)) place found.0 found.1)

pub ids_inside : (rows : List Row) (k : ℕ) (c : ChildList) → IsChildList rows k c → (i : ℕ) → i < length c.ids
    → get_or c.ids i 0 < length rows
ids_inside rows k c h i l = elim (below_or_not (get_or c.ids i 0) (length rows)) [
  | inl g ↦ g
  | inr g ↦
      absurd (let no = ap (λ (r : Row). r.attached) (get_or_past rows (get_or c.ids i 0) blank g) in
      let yes = h.attached i l in cc)
]

-- ---- what the code reads

pub read : {X : Type 0} (xs : List X) (i : ℕ) (r d : X) → i < length xs → r ≡ get_or xs i r → r ≡ get_or xs i d
read xs i r d l e = e ∙ get_or_default xs i r d l

-- the index has a list at the parent of the row that the code read, where this row may be put in
pub read_inside : (rows : List Row) (kept : List ChildList) (id : ℕ) (r : Row) → IsPut rows id → IsIndex rows kept
    → r ≡ get_or rows id r → r.parent < length kept
read_inside rows kept id r put h is =
    rw (read rows id r blank put.inside is) (omega (arith, parent_inside rows id put, h.same))

-- the code has read the row id, and by way of it looks at the children of its parent
pub record HasRead (rows : List Row) (index : List ChildList) (id : ℕ) (r : Row) : Type 0 where
  pub is : r ≡ row_at rows id
  pub above : (row_at rows id).parent < length rows
  pub known : IsIndex rows index

module _ (rows : List Row) (kept : List ChildList) (id : ℕ) (r : Row) (x : HasRead rows kept id r) where
  pub read_list : IsChildList rows (row_at rows id).parent (children_at kept (row_at rows id).parent)
  read_list = x.known.each (row_at rows id).parent x.above

  pub read_children : (l : ChildList) → l ≡ get_or kept r.parent l → l ≡ children_at kept (row_at rows id).parent
  read_children l e =
      e ∙ ap (λ (s : Row). get_or kept s.parent l) x.is
      ∙ get_or_default kept (row_at rows id).parent l no_children (omega (arith, x.above, x.known.same))
