-- A new row comes in: behind the others, or in place of a free one.
use Rattle.std.specs.FinMap.{insert}
use Rattle.dm_tree.specs.Edits.{with_row}
use Rattle.dm_tree.specs.Reuse.{IsOff}
use Rattle.dm_tree.proofs.Common.{◌≡◌, ◌≢◌, ℕ, zero, suc, ◌+◌, ◌<◌, ◌≤◌, ◌^◌, Bool, true, false, List, [], ◌∷◌, ◌++◌}
use Rattle.dm_tree.proofs.Common.{length, None, Some, refl, sym, ◌∙◌, ap, subst, arith, inl, inr, length-append, nat_lt}
use Rattle.dm_tree.proofs.Common.{set, length-set, get_or-append, get_or-append_seam, nat_tests, get_or-set_same}
use Rattle.dm_tree.proofs.Common.{get_or-set_other, get_or_past, option_map, len, is_within_limits, Row, Path, IsRoot}
use Rattle.dm_tree.proofs.Common.{IsChildOf, blank, row_at, node_of, walk, path_below, path_of, ids, nodes, IsShaped}
use Rattle.dm_tree.proofs.Common.{IsRow, IsTree, attached_as, IsFreeRow, IsUsed, IsClear, IsPlaced}
use Rattle.dm_tree.proofs.Paths.{below_or_not, same_or_not, path_or_not}
use Rattle.dm_tree.proofs.RowPaths.{attached_row, not_same, one_row, some_path, Child}
use Rattle.dm_tree.proofs.RowMaps.{id_is, id_of, insert_here, insert_beside, ids_are}
use Rattle.dm_tree.proofs.NodeEdits.{AreOne}
use Rattle.dm_tree.proofs.LiveRows.{live_at}
use Rattle.dm_tree.proofs.SamePaths.{stuck, no_way, nodes_by, nodes_as, nodes_at}

-- the row r has come in at the number k, which wasn't in use, nor any row right below it; the others are as before
pub record IsNewAt (rows now : List Row) (k : ℕ) (r : Row) : Type 0 where
  pub below_root : 0 < k
  pub inside : k < length now
  pub few : length now < 2 ^ 32
  pub longer : length rows ≤ length now
  pub before : (j : ℕ) → j < length now → j ≢ k → j < length rows
  pub parent : r.parent < length rows
  pub here : row_at now k ≡ r
  pub other : (j : ℕ) → j ≢ k → row_at now j ≡ row_at rows j
  pub out : (row_at rows k).attached ≡ false
  pub apart : (j : ℕ) → IsUsed rows j → (j ≢ k) × (0 < j → (row_at rows j).parent ≢ k)

-- ---- the two ways in which it comes

pub in_place : (rows : List Row) → IsTree rows → (k : ℕ) → IsFreeRow rows k → (r : Row) → r.parent < length rows
    → IsNewAt rows (set rows k r) k r
in_place rows tree k free r parent = record {
  below_root = free.below_root;
  inside = omega (arith, long, free.inside);
  few = omega (arith, long, tree.shape.few);
  longer = omega (arith, long);
  before = λ j l d. omega (arith, long, l);
  parent = parent;
  here = get_or-set_same rows k r blank free.inside;
  other = λ j d. get_or-set_other rows k j r blank d;
  out = free.out;
  apart = λ j used. (
    λ e. (let held = used.1 (omega (arith, e, free.below_root)) in
        let given = ap (λ i. (row_at rows i).given_up) e ∙ free.given_up in cc),
    λ z p. (let held = used.1 z in let given = free.alone j z p in cc),
  );
}
  where
    long : length (set rows k r) ≡ length rows
    long = length-set rows k r

pub at_end : (rows : List Row) → IsTree rows → length rows + 1 < 2 ^ 32 → (r : Row) → r.parent < length rows
    → IsNewAt rows (rows ++ r ∷ []) (length rows) r
at_end rows tree room r parent = record {
  below_root = tree.shape.rooted;
  inside = omega (arith, long);
  few = omega (arith, long, room);
  longer = omega (arith, long);
  before = λ j l d. omega (arith, long, l, d);
  parent = parent;
  here = get_or-append_seam rows r [] blank;
  other = λ j d. elim (below_or_not j (length rows)) [
    | inl l ↦ get_or-append rows (r ∷ []) blank j l
    | inr l ↦ get_or_past (rows ++ r ∷ []) j blank (omega (arith, long, l, d)) ∙ sym (get_or_past rows j blank l)
  ];
  out = ap (λ (s : Row). s.attached) (get_or_past rows (length rows) blank (omega arith));
  apart = λ j used. (λ e. omega (arith, used.0, e), λ z p. omega (arith, tree.shape.inside j used.0, p));
}
  where
    long : length (rows ++ r ∷ []) ≡ suc (length rows)
    long = omega (arith, length-append rows (r ∷ []))

pub new_at : (rows now : List Row) → IsTree rows → (k : ℕ) (r : Row) → IsPlaced rows now k r → r.parent < length rows
    → IsNewAt rows now k r
new_at rows now tree k r (inl (e, (room, f))) parent =
    subst (λ n. IsNewAt rows n k r) (sym f)
    (subst (λ i. IsNewAt rows (rows ++ r ∷ []) i r) (sym e) (at_end rows tree room r parent))
new_at rows now tree k r (inr (free, f)) parent =
    subst (λ n. IsNewAt rows n k r) (sym f) (in_place rows tree k free r parent)

pub with_row-placed : (rows now : List Row) (k : ℕ) (r : Row) → IsPlaced rows now k r → now ≡ with_row rows k r
with_row-placed rows now k r (inl (e, (room, f))) =
    let past : nat_lt k (length rows) ≡ false = grind (arith, nat_tests) in f ∙ rw past refl
with_row-placed rows now k r (inr (free, f)) =
    let l = free.inside in let there : nat_lt k (length rows) ≡ true = grind (arith, nat_tests) in f ∙ rw there refl

-- put in or taken out, it is still a new row
pub new-as : (rows now : List Row) (k : ℕ) (r : Row) (b : Bool) → IsNewAt rows now k r
    → IsNewAt rows (attached_as now k b) k (record r { attached = b })
new-as rows now k r b new = record {
  below_root = new.below_root;
  inside = omega (arith, long, new.inside);
  few = omega (arith, long, new.few);
  longer = omega (arith, long, new.longer);
  before = λ j l. new.before j (omega (arith, long, l));
  parent = new.parent;
  here = get_or-set_same now k _ blank new.inside ∙ ap (λ (s : Row). record s { attached = b }) new.here;
  other = λ j d. get_or-set_other now k j _ blank d ∙ new.other j d;
  out = new.out;
  apart = new.apart;
}
  where
    long : length (attached_as now k b) ≡ length now
    long = length-set now k _

-- below its parent, another row, there is a place for it: one deeper, and under a name that no child has
pub record IsBelow (rows : List Row) (k : ℕ) (r : Row) : Type 0 where
  pub away : r.parent ≢ k
  pub deep : r.depth ≡ suc (row_at rows r.parent).depth
  pub named : (j : ℕ) → Child rows r.parent r.name j → ⊥
  pub child : IsChildOf r.node (node_of rows r.parent)

-- what may stand there: where it is attached, below another row
pub record IsNewcomer (rows : List Row) (k : ℕ) (r : Row) : Type 0 where
  pub shallow : r.depth ≤ 16
  pub row : IsRow r
  pub below : r.attached ≡ true → IsBelow rows k r

-- a row that may stand anywhere, since it isn't attached
pub record IsAside (r : Row) : Type 0 where
  pub out : r.attached ≡ false
  pub row : IsRow r
  pub shallow : r.depth ≤ 16

module _ {rows now : List Row} {k : ℕ} {r : Row} (tree : IsTree rows) (new : IsNewAt rows now k r) where
  -- what holds of the new row, and of the others, holds of each
  pub each_new : (P : Row → Type 0) (j : ℕ) → (j ≡ k → P r) → (j ≢ k → P (row_at rows j)) → P (row_at now j)
  each_new P j first rest = elim (same_or_not j k) [
    | inl e ↦ subst P (sym (ap (row_at now) e ∙ new.here)) (first e)
    | inr d ↦ subst P (sym (new.other j d)) (rest d)
  ]

  -- a row that is attached is in use
  pub childless : (j : ℕ) → (row_at rows j).attached ≡ true → (row_at rows j).parent ≢ k
  childless j at =
      let place = attached_row rows tree.shape j at in
      (new.apart j (place.1, λ _. (tree.each j place.1).attached at)).1 place.0

  pub no_root : k ≢ 0
  no_root = λ z. omega (arith, z, new.below_root)

  -- what lies below another row is another row
  pub other_path : (top j : ℕ) (p : Path) → k ≢ top → path_below rows top j ≡ Some p → j ≢ k
  other_path top j p d e same =
      let none : path_below rows top k ≡ None = no_way rows _ top k d new.out in
      let some = ap (path_below rows top) (sym same) ∙ e in cc

  -- ---- ways up

  pub walk_beside : (d top j : ℕ) → j ≢ k → walk now d top j ≡ walk rows d top j
  walk_beside zero top j other = refl
  walk_beside (suc d) top j other =
      let here = new.other j other in
      let up = walk_beside d top (row_at rows j).parent in
      let apart = childless j in rw here (grind (arith, nat_tests))

  pub path_beside : (top j : ℕ) → j ≢ k → path_below now top j ≡ path_below rows top j
  path_beside top j other =
      ap (λ (s : Row). walk now s.depth top j) (new.other j other) ∙ walk_beside (row_at rows j).depth top j other

  -- out of the tree, it changes none
  pub walk_out : r.attached ≡ false → (d e top j : ℕ) → (j ≢ k → d ≡ e) → walk now d top j ≡ walk rows e top j
  walk_out out d e top j same = elim (same_or_not j k) [
    | inl h ↦
        subst (λ i. walk now d top i ≡ walk rows e top i) (sym h)
        (stuck now d top k (ap (λ (s : Row). s.attached) new.here ∙ out) ∙ sym (stuck rows e top k new.out))
    | inr other ↦ ap (λ n. walk now n top j) (same other) ∙ walk_beside e top j other
  ]

  pub path_out : r.attached ≡ false → (top j : ℕ) → path_below now top j ≡ path_below rows top j
  path_out out top j = walk_out out _ _ top j (λ d. ap (λ (s : Row). s.depth) (new.other j d))

  -- from no other row one comes up to it
  pub off_new : (j : ℕ) → j ≢ k → IsOff rows k j
  off_new j other zero = rw (not_same j k other) refl
  off_new j other (suc d) =
      let up = λ (h : (row_at rows j).parent ≢ k). off_new (row_at rows j).parent h d in
      let apart = childless j in grind (arith, nat_tests)

  -- a row is as clear as before where the way up from its parent is
  clear_by : (i j : ℕ) → j ≢ k
      → (0 < j → (d : ℕ) → walk now d i (row_at rows j).parent ≡ walk rows d i (row_at rows j).parent)
      → IsClear rows i j → IsClear now i j
  clear_by i j other ways c = record {
    other = c.other;
    parent = λ y d. ap (λ (s : Row). walk now d i s.parent) (new.other j other) ∙ ways y d ∙ c.parent y d;
  }

  pub clear_used : (i j : ℕ) → IsUsed rows j → IsClear rows i j → IsClear now i j
  clear_used i j used = let apart = new.apart j used in
      clear_by i j apart.0 (λ y d. walk_beside d i (row_at rows j).parent (apart.1 y))

  -- rows in use are clear of the new row
  pub clear_new : (j : ℕ) → IsUsed rows j → IsClear now k j
  clear_new j used = let apart = new.apart j used in
      clear_used k j used
      (record { other = apart.0; parent = λ y. off_new (row_at rows j).parent (apart.1 y) })

  -- out of the tree, it makes no other row less clear
  pub clear_out : r.attached ≡ false → (i j : ℕ) → j ≢ k → IsClear rows i j → IsClear now i j
  clear_out out i j other = clear_by i j other (λ y d. walk_out out d d i (row_at rows j).parent (λ _. refl))

  -- ---- the tree

  pub shaped_new : IsNewcomer rows k r → IsShaped now
  shaped_new may = record {
    rooted = omega (arith, new.longer, tree.shape.rooted);
    few = new.few;
    at_root = ap (λ (s : Row). s.depth) (new.other 0 (λ z. no_root (sym z))) ∙ tree.shape.at_root;
    fixed = ap (λ (s : Row). s.attached) (new.other 0 (λ z. no_root (sym z))) ∙ tree.shape.fixed;
    inside =
        λ j l. each_new (λ s. s.parent < length now) j (λ _. omega (arith, new.longer, new.parent))
        (λ d. omega (arith, new.longer, tree.shape.inside j (new.before j l d)));
    falls = λ j.
        each_new (λ s. s.attached ≡ true → s.depth ≡ suc (row_at now s.parent).depth) j
        (λ _ up. (may.below up).deep ∙ ap (λ (s : Row). suc s.depth) (sym (new.other r.parent (may.below up).away)))
        (λ _ up. tree.shape.falls j up
        ∙ ap (λ (s : Row). suc s.depth) (sym (new.other (row_at rows j).parent (childless j up))));
    shallow = λ j. each_new (λ s. s.depth ≤ 16) j (λ _. may.shallow) (λ _. tree.shape.shallow j);
    no_twins = λ i j.
        each_new (λ s. AreOne i j s (row_at now j)) i
        (λ e. each_new (AreOne i j r) j (λ f _ _ _ _. e ∙ sym f)
        (λ _ a b p n. absurd ((may.below a).named j (record { attached = b; parent = sym p; named = sym n }))))
        (λ _. each_new (AreOne i j (row_at rows i)) j
        (λ _ a b p n. absurd ((may.below b).named i (record { attached = a; parent = p; named = n })))
        (λ _. tree.shape.no_twins i j));
  }

  pub tree_new : IsNewcomer rows k r → ((p : Path) → path_below now 0 k ≡ Some p → is_within_limits p ≡ true)
      → len (nodes now) ≤ 65536 → IsTree now
  tree_new may within size = record {
    shape = shaped_new may;
    each = λ j l. each_new IsRow j (λ _. may.row) (λ d. tree.each j (new.before j l d));
    root = subst (λ (s : Row). IsRoot s.node) (sym (new.other 0 (λ z. no_root (sym z)))) tree.root;
    children = λ j.
        each_new (λ s. s.attached ≡ true → IsChildOf s.node (node_of now s.parent)) j
        (λ _ up. let below = may.below up in
        subst (λ (s : Row). IsChildOf r.node s.node) (sym (new.other r.parent below.away)) below.child)
        (λ _ up. subst (λ (s : Row). IsChildOf (node_of rows j) s.node)
        (sym (new.other (row_at rows j).parent (childless j up))) (tree.children j up));
    within = λ j live. elim (same_or_not j k) [
      | inl e ↦ within (path_of now j) (ap (path_below now 0) (sym e) ∙ live)
      | inr d ↦
          let there = live_at rows j (path_of now j) (sym (path_beside 0 j d) ∙ live) in
          ap is_within_limits (sym there.1) ∙ tree.within j there.0
    ];
    size = size;
  }

  -- ---- the maps

  pub not_there : (j : ℕ) (q : Path) → path_below rows 0 j ≡ Some q → j ≢ k
  not_there j q = other_path 0 j q no_root

  -- out of the tree, it changes neither
  pub ids_out : r.attached ≡ false → IsShaped now → ids now ≡ ids rows
  ids_out out shape =
      ids_are now shape (ids rows) (λ i q e. id_of rows tree.shape i q (sym (path_out out 0 i) ∙ e))
      (λ i q e. path_out out 0 i ∙ (id_is rows q i e).0)

  pub nodes_out : r.attached ≡ false → IsShaped now → nodes now ≡ nodes rows
  nodes_out out shape =
      nodes_by now rows (ids_out out shape) (λ j q e. ap (λ (s : Row). s.node) (new.other j (not_there j q e)))

  pub tree_aside : IsAside r → IsTree now
  tree_aside aside =
      tree_new may (λ p e. absurd (not_there k p (sym (path_out aside.out 0 k) ∙ e) refl))
      (omega (arith, tree.size, ap len (nodes_out aside.out (shaped_new may))))
    where
      may : IsNewcomer rows k r
      may = record {
        shallow = aside.shallow;
        row = aside.row;
        below = λ at. absurd (let out = aside.out in cc);
      }

  -- in the tree, it comes into both
  module _ (shape : IsShaped now) (p : Path) (at : path_below now 0 k ≡ Some p) where
    pub ids_in : ids now ≡ insert (ids rows) p k
    ids_in =
        ids_are now shape (insert (ids rows) p k) (λ i q e. elim (same_or_not i k) [
          | inl h ↦
              insert_here (ids rows) p q k (some_path q p (sym e ∙ ap (path_below now 0) h ∙ at))
              ∙ ap (λ j. Some j) (sym h)
          | inr d ↦
              insert_beside (ids rows) p q k
              (λ same. d (one_row now shape _ _ 0 i k q e (at ∙ ap (λ s. Some s) (sym same))))
              ∙ id_of rows tree.shape i q (sym (path_beside 0 i d) ∙ e)
        ]) (λ i q e. elim (path_or_not q p) [
          | inl h ↦
              let found = insert_here (ids rows) p q k h in
              let is : k ≡ i = cc in
              ap (path_below now 0) (sym is) ∙ at ∙ ap (λ s. Some s) (sym h)
          | inr d ↦
              let there = (id_is rows q i (sym (insert_beside (ids rows) p q k d) ∙ e)).0 in
              path_beside 0 i (not_there i q there) ∙ there
        ])

    pub nodes_in : nodes now ≡ insert (nodes rows) p r.node
    nodes_in = nodes_as now (insert (ids rows) p k) (insert (nodes rows) p r.node) ids_in (λ q.
        elim (path_or_not q p) [
          | inl h ↦
              ap (option_map (node_of now)) (insert_here (ids rows) p q k h) ∙ ap (λ (s : Row). Some s.node) new.here
              ∙ sym (insert_here (nodes rows) p q r.node h)
          | inr d ↦
              ap (option_map (node_of now)) (insert_beside (ids rows) p q k d)
              ∙ nodes_at now rows q (λ j e. ap (λ (s : Row). s.node) (new.other j (not_there j q e)))
              ∙ sym (insert_beside (nodes rows) p q r.node d)
        ])
