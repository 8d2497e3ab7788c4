-- A subtree is freed: down where a row is left, and up where none is.
use Rattle.std.proofs.Common.{◌*◌}
use Rattle.std.specs.Prelude.{sum_by}
use Rattle.std.proofs.lemmas.List.Sums.{sum_by-set}
use Rattle.std.proofs.lemmas.Option.{slice_get-get_or}
use Rattle.dm_tree.specs.Frees.{spent, IsFreed}
use Rattle.dm_tree.proofs.Common.{◌≡◌, ◌≢◌, ℕ, zero, suc, ◌<◌, ◌+◌, ◌-◌, true, false, cond, List, [], length, Option}
use Rattle.dm_tree.proofs.Common.{None, Some, refl, sym, ◌∙◌, ap, subst, arith, ◌⊎◌, inl, inr, slice_get, set}
use Rattle.dm_tree.proofs.Common.{length-set, get_or-set_same, get_or-set_other, get_or_past, slice_get_within}
use Rattle.dm_tree.proofs.Common.{get_or_from_slice_get, Row, Path, blank, row_at, node_of, path_below, IsShaped}
use Rattle.dm_tree.proofs.Common.{IsTree, IsParkedTop, emptied, without_content, GoesAlike, IsLeftOver, freed}
use Rattle.dm_tree.proofs.Common.{ChildList, no_children, children_at, IsChildList, IsIndex}
use Rattle.dm_tree.proofs.Paths.{same_or_not}
use Rattle.dm_tree.proofs.RowPaths.{attached_row}
use Rattle.dm_tree.proofs.NodeEdits.{each_set, of_both}
use Rattle.dm_tree.proofs.GivenUpRows.{path_up, path_down, self_below}
use Rattle.dm_tree.proofs.SamePaths.{no_way}
use Rattle.dm_tree.proofs.ClearRows.{live-off}
use Rattle.dm_tree.proofs.FlipsBeside.{alike-then, alike-fewer}
use Rattle.dm_tree.proofs.UndoFlips.{parked_top-same}
use Rattle.dm_tree.proofs.UndoPromises.{alike-given_up}
use Rattle.dm_tree.proofs.RowFreeing.{freed_is, alike-freed}

-- a row that is out lies below itself alone
only_top : (rows : List Row) (t j : ℕ) (q : Path) → (row_at rows j).attached ≡ false → path_below rows t j ≡ Some q
    → j ≡ t
only_top rows t j q out e =
    let none : j ≢ t → path_below rows t j ≡ None = λ d. no_way rows (row_at rows j).depth t j d out in grind arith

above_root : (rows : List Row) → IsShaped rows → (t j : ℕ) (p : Path) → 0 < t → path_below rows t j ≡ Some p → 0 < j
above_root rows shape t j p z e =
    let same : j ≡ 0 → j ≡ t = λ f. only_top rows t j p (ap (λ i. (row_at rows i).attached) f ∙ shape.fixed) e in
    grind arith

-- no row of a parked subtree was given up
in_use : (old : List Row) → IsTree old → (top : ℕ) → IsParkedTop old top → (j : ℕ) (p : Path)
    → path_below old top j ≡ Some p → (row_at old j).given_up ≡ false
in_use old tree top is j p e = elim (same_or_not j top) [
  | inl s ↦ ap (λ i. (row_at old i).given_up) s ∙ is.held
  | inr d ↦ let at = (path_up old tree.shape top j p d e).attached in
      (tree.each j (attached_row old tree.shape j at).1).attached at
]

-- ---- how far the freeing has come

-- this is the row as it was, or what is left of it, where it lies below the top
abbrev StillOrSpent : List Row → ℕ → ℕ → Row → Type 0
StillOrSpent old top j r =
    (r ≡ row_at old j) ⊎ ((r ≡ spent (row_at old j)) × (p : Path) × (path_below old top j ≡ Some p))

-- the rows of the subtree down to the row `at` were given back, and some beside this way; each that is left below one
-- of these stands right below a row of the way
pub record IsGoing (old : List Row) (top : ℕ) (rows : List Row) (at : ℕ) : Type 0 where
  pub alike : GoesAlike (λ j. path_below old top j ≡ None) old rows
  pub long : length rows ≡ length old
  pub each : (j : ℕ) → StillOrSpent old top j (row_at rows j)
  pub way : (t : ℕ) (q : Path) → path_below old t at ≡ Some q → (row_at rows t).given_up ≡ true
  pub left : (j : ℕ) (p : Path) → path_below old top j ≡ Some p → (row_at rows j).attached ≡ true
      → (row_at rows (row_at old j).parent).given_up ≡ true
      → (q : Path) × (path_below old (row_at old j).parent at ≡ Some q)
  pub found : (p : Path) × (path_below old top at ≡ Some p)

abbrev weight : Row → ℕ
weight r = cond r.attached 1 0

-- a step down takes a row out, and a step up is one of depth
abbrev pub to_go : List Row → ℕ → ℕ
to_go rows at = 2 * sum_by weight rows + (row_at rows at).depth

-- first the top is given up
pub going-begins : (old : List Row) → IsTree old → (top : ℕ) → IsParkedTop old top
    → IsGoing old top (without_content old top) top
going-begins old tree top is = record {
  alike = alike-fewer (λ j. j ≡ top → ⊥) (λ j. path_below old top j ≡ None)
      (λ j none e. let some = ap (path_below old top) e ∙ itself in cc) (alike-given_up old top tree is);
  long = length-set old top _;
  each = λ j. each_set old top _ is.inside (StillOrSpent old top j) j (λ s. inr (
    ap (λ b. record (row_at old top) { attached = b; given_up = true; node = emptied (node_of old top) }) is.out
        ∙ ap (λ i. spent (row_at old i)) (sym s),
    [],
    ap (path_below old top) s ∙ itself,
  )) (λ _. inl refl);
  way = λ t q e. each_set old top _ is.inside (λ s. s.given_up ≡ true) t (λ _. refl)
      (λ d. absurd (d (sym (only_top old t top q is.out e))));
  left = λ j p e on up.
      let at = sym (of_both old top _ (λ s. s.attached) refl j is.inside) ∙ on in
      let apart : j ≢ top = λ s. absurd (let out = ap (λ i. (row_at old i).attached) s ∙ is.out in cc) in
      let u = path_up old tree.shape top j p apart e in
      let used = in_use old tree top is (row_at old j).parent u.above u.found in
      let same =
      each_set old top _ is.inside (λ s. s.given_up ≡ true → (row_at old j).parent ≡ top) (row_at old j).parent
      (λ s _. s) (λ _ no. absurd (cc)) up in
      ([], ap (λ t. path_below old t top) same ∙ itself);
  found = ([], itself);
}
  where
    itself : path_below old top top ≡ Some []
    itself = self_below old (row_at old top).depth top

pub going-inside : {old : List Row} {top : ℕ} {rows : List Row} {at : ℕ} → IsGoing old top rows at → at < length rows
going-inside {old} {top} {rows} {at} go =
    let past = get_or_past rows at blank in
    let up = go.way at [] (self_below old (row_at old at).depth at) in
    grind arith

module _ (old : List Row) (tree : IsTree old) (top : ℕ) (is : IsParkedTop old top) {rows : List Row} {at : ℕ}
    (go : IsGoing old top rows at) where
  -- the row at which it is was given back
  at_spent : row_at rows at ≡ spent (row_at old at)
  at_spent =
      let row = go.each at in
      let up = go.way at [] (self_below old (row_at old at).depth at) in
      let used = in_use old tree top is at go.found.0 go.found.1 in
      grind arith

  -- what a row keeps when it is given back is as it was in each row
  kin : {X : Type 0} (f : Row → X) → ((r : Row) → f (spent r) ≡ f r) → (j : ℕ) → f (row_at rows j) ≡ f (row_at old j)
  kin f same j = elim (go.each j) [
    | inl s ↦ ap f s
    | inr s ↦ ap f s.0 ∙ same (row_at old j)
  ]

  -- ---- down

  module _ (k : ℕ) (child : ((row_at rows k).attached ≡ true) × ((row_at rows k).parent ≡ at)) where
    inside : k < length rows
    inside = (attached_row rows go.alike.tree.shape k child.0).1

    abbrev now : List Row
    now = set rows k (spent (row_at rows k))

    pub left-below : IsLeftOver rows k
    left-below = record {
      attached = child.0;
      below_root = omega (arith, child.1, above_root old tree.shape top at go.found.0 is.below_root go.found.1);
      out = ap (λ i. (row_at rows i).attached) child.1 ∙ ap (λ (s : Row). s.attached) at_spent;
      given_up = ap (λ i. (row_at rows i).given_up) child.1 ∙ ap (λ (s : Row). s.given_up) at_spent;
    }

    still : row_at rows k ≡ row_at old k
    still = let row = go.each k in let on = child.0 in grind arith

    parent_at : (row_at old k).parent ≡ at
    parent_at = ap (λ (s : Row). s.parent) (sym still) ∙ child.1

    was_on : (row_at old k).attached ≡ true
    was_on = ap (λ (s : Row). s.attached) (sym still) ∙ child.0

    lies : (p : Path) × (path_below old top k ≡ Some p)
    lies = (
      _,
      path_down old tree.shape top k go.found.0
          (λ e. absurd (let out = ap (λ i. (row_at old i).attached) e ∙ is.out in let on = was_on in cc)) was_on
          (ap (path_below old top) parent_at ∙ go.found.1),
    )

    off_way : (j : ℕ) → path_below old top j ≡ None → j ≢ k
    off_way j none e = absurd (let some = ap (path_below old top) e ∙ lies.1 in cc)

    going : IsGoing old top now k
    going = record {
      alike = alike-then (λ j. path_below old top j ≡ None) go.alike
          (subst (GoesAlike (λ j. path_below old top j ≡ None) rows) (freed_is rows k inside)
          (alike-fewer (λ j. j ≡ k → ⊥) (λ j. path_below old top j ≡ None) off_way
          (alike-freed rows go.alike.tree k left-below)));
      long = length-set rows k _ ∙ go.long;
      each = λ j. each_set rows k _ inside (StillOrSpent old top j) j (λ s. inr (
        ap spent still ∙ ap (λ i. spent (row_at old i)) (sym s),
        lies.0,
        ap (path_below old top) s ∙ lies.1,
      )) (λ _. go.each j);
      way = λ t q e. each_set rows k _ inside (λ s. s.given_up ≡ true) t (λ _. refl) (λ d.
          let u = path_up old tree.shape t k q (λ s. d (sym s)) e in
          go.way t u.above (ap (path_below old t) (sym parent_at) ∙ u.found));
      left = λ j p e on up. elim (same_or_not (row_at old j).parent k) [
        | inl s ↦ ([], ap (λ t. path_below old t k) s ∙ self_below old (row_at old k).depth k)
        | inr d ↦
            let on_before =
            each_set rows k (spent (row_at rows k)) inside (λ s. s.attached ≡ true → (row_at rows j).attached ≡ true) j
            (λ _ no. absurd (cc)) (λ _ yes. yes) on in
            let w =
            go.left j p e on_before
            (ap (λ (s : Row). s.given_up) (sym (get_or-set_other rows k (row_at old j).parent _ blank d)) ∙ up) in (
              _,
              path_down old tree.shape (row_at old j).parent k w.0 (λ s. d (sym s)) was_on
                  (ap (path_below old (row_at old j).parent) parent_at ∙ w.1),
            )
      ];
      found = lies;
    }

    pub going-down : IsGoing old top (freed rows k) k
    going-down = subst (λ r. IsGoing old top r k) (sym (freed_is rows k inside)) going

    pub fewer-down : to_go (freed rows k) k < to_go rows at
    fewer-down =
        let one : weight (row_at rows k) ≡ 1 = ap (λ b. cond b 1 0) child.0 in
        let deep : (row_at now k).depth ≡ suc (row_at rows at).depth =
        of_both rows k _ (λ s. s.depth) refl k inside ∙ go.alike.tree.shape.falls k child.0
        ∙ ap (λ i. suc (row_at rows i).depth) child.1 in
        subst (λ r. to_go r k < to_go rows at) (sym (freed_is rows k inside))
        (omega (arith, one, sum_by-set weight rows k (spent (row_at rows k)) blank inside, deep))

  -- ---- up, and the end

  module _ (bare : (j : ℕ) → (row_at rows j).attached ≡ true → (row_at rows j).parent ≡ at → ⊥) where
    pub going-up : at ≢ top → IsGoing old top rows (row_at rows at).parent
    going-up apart =
        let u = path_up old tree.shape top at go.found.0 apart go.found.1 in
        subst (IsGoing old top rows) (sym (kin (λ s. s.parent) (λ s. refl) at)) (record {
          alike = go.alike;
          long = go.long;
          each = go.each;
          way = λ t q e. elim (same_or_not at t) [
            | inl s ↦ go.way t [] (ap (path_below old t) s ∙ self_below old (row_at old t).depth t)
            | inr d ↦ go.way t _ (path_down old tree.shape t at q d u.attached e)
          ];
          left = λ j p e on up.
              let w = go.left j p e on up in
              let v =
              path_up old tree.shape (row_at old j).parent at w.0
              (λ s. bare j on (kin (λ s. s.parent) (λ s. refl) j ∙ sym s)) w.1 in
              (v.above, v.found);
          found = (u.above, u.found);
        })

    pub fewer-up : at ≢ top → to_go rows (row_at rows at).parent < to_go rows at
    fewer-up apart =
        let u = path_up old tree.shape top at go.found.0 apart go.found.1 in
        omega (
          arith,
          ap (λ i. (row_at rows i).depth) (kin (λ s. s.parent) (λ s. refl) at),
          kin (λ s. s.depth) (λ s. refl) (row_at old at).parent,
          kin (λ s. s.depth) (λ s. refl) at,
          tree.shape.falls at u.attached,
        )

    module _ (end : at ≡ top) where
      -- a row that is left would stand right below the top
      all_spent : (n j : ℕ) (p : Path) → (row_at old j).depth < n → path_below old top j ≡ Some p
          → row_at rows j ≡ spent (row_at old j)
      all_spent zero j p deep e = absurd (omega arith)
      all_spent (suc n) j p deep e = elim (same_or_not j top) [
        | inl t ↦ subst (λ i. row_at rows i ≡ spent (row_at old i)) (end ∙ sym t) at_spent
        | inr d ↦
            let u = path_up old tree.shape top j p d e in
            let above = all_spent n (row_at old j).parent u.above (omega (arith, deep, tree.shape.falls j u.attached))
            u.found in
            elim (go.each j) [
              | inl s ↦
                  let on : (row_at rows j).attached ≡ true = ap (λ (r : Row). r.attached) s ∙ u.attached in
                  let w = go.left j p e on (ap (λ (r : Row). r.given_up) above) in
                  let same : at ≡ (row_at old j).parent =
                  only_top old (row_at old j).parent at w.0 (ap (λ i. (row_at old i).attached) end ∙ is.out) w.1 in
                  absurd (bare j on (kin (λ s. s.parent) (λ s. refl) j ∙ sym same))
              | inr s ↦ s.0
            ]
      ]

      are_spent : (j : ℕ) (p : Path) → path_below old top j ≡ Some p → row_at rows j ≡ spent (row_at old j)
      are_spent j p e = all_spent (suc (row_at old j).depth) j p (omega arith) e

      others : (j : ℕ) → path_below old top j ≡ None → row_at rows j ≡ row_at old j
      others j none = let row = go.each j in grind arith

      parked_was : (j : ℕ) → IsParkedTop rows j → (o : Option Path) → path_below old top j ≡ o
          → IsParkedTop old j × (path_below old top j ≡ None)
      parked_was j p None none =
          (parked_top-same rows old j (omega (arith, p.inside, go.long)) (sym (others j none)) p, none)
      parked_was j p (Some q) e =
          absurd (let up = ap (λ (s : Row). s.given_up) (are_spent j q e) in let held = p.held in cc)

      pub going-ends : IsFreed old top rows
      going-ends = record {
        spent = are_spent;
        given = record {
          gone = λ j p e.
              let out = ap (λ (s : Row). s.attached) (are_spent j p e) in (
                λ live.
                    omega (arith, only_top rows 0 j _ out live, above_root old tree.shape top j p is.below_root e),
                λ held. absurd (
                    let up = ap (λ (s : Row). s.given_up) (are_spent j p e) in
                    let same = ap (λ i. (row_at rows i).given_up) (only_top rows held.0 j held.2 out held.3) in
                    let not_up = held.1.held in cc),
              );
          live = λ j live. others j (live-off old tree.shape top is.below_root is.out (row_at old j).depth j live);
          parked = λ j held none. others j none;
        };
        alike = go.alike;
        parked = λ j p. parked_was j p (path_below old top j) refl;
        used = λ j used none. go.alike.used [] j tt tt none used;
        long = go.long;
      }

-- ---- what the lists of children tell

-- a list without rows is made anew
pub renewed_index : (rows : List Row) (index : List ChildList) → IsIndex rows index → (id : ℕ) → id < length rows
    → length (children_at index id).ids ≡ 0 → (children_at index id).parked ≡ 0
    → IsIndex rows (set index id no_children)
renewed_index rows index known id l bare none = record {
  same = length-set index id no_children ∙ known.same;
  each = λ k kl. elim (same_or_not k id) [
    | inl e ↦ rw (e, get_or-set_same index id no_children no_children (omega (arith, l, known.same))) anew
    | inr d ↦ rw (get_or-set_other index id k no_children no_children d) (known.each k kl)
  ];
}
  where
    anew : IsChildList rows id no_children
    anew = record {
      order = λ i j h m. absurd (omega (arith, m));
      attached = λ i h. absurd (omega (arith, h));
      parent = λ i h. absurd (omega (arith, h));
      all = λ j up p. absurd (let there = (known.each id l).all j up p in omega (arith, there.1, bare));
      parked = sym none ∙ (known.each id l).parked;
      room = omega arith;
    }

-- what the code has read of a list
abbrev last_of : List ChildList → ℕ → Option ℕ
last_of index at = slice_get (children_at index at).ids (length (children_at index at).ids - 1)

module _ {old : List Row} {top : ℕ} {rows : List Row} {at : ℕ} {index index' : List ChildList} {o : Option ℕ}
    (go : IsGoing old top rows at) (known : IsIndex rows index) (same : index' ≡ index)
    (is : o ≡ last_of index' at) where
  list : IsChildList rows at (children_at index at)
  list = known.each at (going-inside go)

  pub child-read : {k : ℕ} → o ≡ Some k → ((row_at rows k).attached ≡ true) × ((row_at rows k).parent ≡ at)
  child-read {k} e =
      let ids = (children_at index at).ids in
      let last : last_of index at ≡ Some k = ap (λ i. last_of i at) (sym same) ∙ sym is ∙ e in
      let l = slice_get_within ids (length ids - 1) k last in
      let found = sym (get_or_from_slice_get ids (length ids - 1) k 0 last) in (
        ap (λ i. (row_at rows i).attached) found ∙ list.attached _ l,
        ap (λ i. (row_at rows i).parent) found ∙ list.parent _ l,
      )

  pub none-read : o ≡ None → (j : ℕ) → (row_at rows j).attached ≡ true → (row_at rows j).parent ≡ at → ⊥
  none-read e j up below =
      let ids = (children_at index at).ids in
      let last : last_of index at ≡ None = ap (λ i. last_of i at) (sym same) ∙ sym is ∙ e in
      let there = list.all j up below in
      let some = slice_get-get_or ids (length ids - 1) 0 (omega (arith, there.1)) in
      absurd (cc)
