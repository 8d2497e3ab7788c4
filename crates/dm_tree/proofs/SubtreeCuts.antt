-- A subtree is taken out.
use Rattle.std.proofs.Common.{not}
use Rattle.std.specs.FinMap.{get-retain_keys}
use Rattle.dm_tree.proofs.Common.{◌≡◌, ◌≢◌, ℕ, zero, suc, ◌<◌, true, false, cond, List, [], length, None, Some, refl}
use Rattle.dm_tree.proofs.Common.{sym, ◌∙◌, ap, arith, Row, Path, tree_order, is_below, blank, row_at, walk, path_below}
use Rattle.dm_tree.proofs.Common.{ids, nodes, IsShaped, IsLive, path_of, attached_as, pruned, FinMap, get, nat_tests}
use Rattle.dm_tree.proofs.Common.{get_or-set_other, length-set}
use Rattle.dm_tree.proofs.Paths.{below_last, below_longer, below_none, below_self, tree_exact}
use Rattle.dm_tree.proofs.RowPaths.{at_bottom, at_top, attached_row, not_zero, one_row, up_from}
use Rattle.dm_tree.proofs.RowMaps.{id_is, id_of, ids_are, node_of_path, nodes_are, root_live, row_there}
use Rattle.dm_tree.proofs.NodeEdits.{each_set, live_row, of_both}
use Rattle.dm_tree.proofs.LiveRows.{has_parent}

pub still_attached : (rows : List Row) (k j : ℕ) → k < length rows
    → (row_at (attached_as rows k false) j).attached ≡ true → (j ≢ k) × ((row_at rows j).attached ≡ true)
still_attached rows k j l =
    each_set rows k _ l (λ s. s.attached ≡ true → (j ≢ k) × ((row_at rows j).attached ≡ true)) j
    (λ _ at. absurd (cc)) (λ h at. (h, at))

pub shaped-detached : (rows : List Row) → IsShaped rows → (k : ℕ) → 0 < k → k < length rows
    → IsShaped (attached_as rows k false)
shaped-detached rows shape k z l =
    let long = length-set rows k (record (row_at rows k) { attached = false }) in
    let depth = λ (j : ℕ). of_both rows k (record (row_at rows k) { attached = false }) (λ r. r.depth) refl j l in
    let parent = λ (j : ℕ). of_both rows k (record (row_at rows k) { attached = false }) (λ r. r.parent) refl j l in
    let name = λ (j : ℕ). of_both rows k (record (row_at rows k) { attached = false }) (λ r. r.name) refl j l in
    record {
      rooted = omega (arith, long, shape.rooted);
      few = omega (arith, long, shape.few);
      at_root = depth 0 ∙ shape.at_root;
      fixed = each_set rows k _ l (λ s. s.attached ≡ false) 0 (λ _. refl) (λ _. shape.fixed);
      inside = λ j h. omega (arith, long, parent j, shape.inside j (omega (arith, long)));
      falls =
          λ j a. depth j ∙ shape.falls j (still_attached rows k j l a).1
          ∙ ap suc (ap (λ i. (row_at rows i).depth) (sym (parent j)) ∙ sym (depth _));
      shallow = λ j. omega (arith, depth j, shape.shallow j);
      no_twins = λ i j a b p n.
          shape.no_twins i j (still_attached rows k i l a).1 (still_attached rows k j l b).1
          (sym (parent i) ∙ p ∙ parent j) (sym (name i) ∙ n ∙ name j);
    }

-- a live row that is no root is attached
pub live_attached : (rows : List Row) → IsShaped rows → (k : ℕ) → 0 < k → IsLive rows k
    → (row_at rows k).attached ≡ true
live_attached rows shape k z live = (has_parent rows shape k live (not_zero k (omega arith))).attached

pub get-pruned : {X : Type 0} (m : FinMap tree_order X) (p q : Path)
    → get (pruned m p) q ≡ cond (not (is_below p q)) (get m q) None
get-pruned m p q =
    get-retain_keys m (λ r. not (is_below p r)) q (λ r e. ap (λ x. not (is_below p x)) (sym (tree_exact q r e)))

-- what is left in the map, and what was there
pruned_has : {X : Type 0} (m : FinMap tree_order X) (p q : Path) (x : X) → get m q ≡ Some x → is_below p q ≡ false
    → get (pruned m p) q ≡ Some x
pruned_has m p q x e f = get-pruned m p q ∙ rw f e

pruned_had : {X : Type 0} (m : FinMap tree_order X) (p q : Path) (x : X) → get (pruned m p) q ≡ Some x
    → (get m q ≡ Some x) × (is_below p q ≡ false)
pruned_had m p q x e = let is = get-pruned m p q in grind arith

module _ (rows : List Row) (shape : IsShaped rows) (k : ℕ) (z : 0 < k) (live : IsLive rows k) where
  abbrev now : List Row
  now = attached_as rows k false

  l : k < length rows
  l = live_row rows shape k live

  depth : (j : ℕ) → (row_at now j).depth ≡ (row_at rows j).depth
  depth j = of_both rows k _ (λ r. r.depth) refl j l

  beside : (j : ℕ) → j ≢ k → row_at now j ≡ row_at rows j
  beside j d = get_or-set_other rows k j _ blank d

  no_root : (i : ℕ) → (row_at rows i).attached ≡ true → i ≢ 0
  no_root i at e = omega (arith, e, (attached_row rows shape i at).0)

  -- going up in the rows after, from where the way does not go through the subtree
  kept_walk : (d i : ℕ) (q : Path) → (row_at rows i).depth ≡ d → walk rows d 0 i ≡ Some q
      → is_below (path_of rows k) q ≡ false → walk now d 0 i ≡ Some q
  kept_walk zero i q deep e f = e
  kept_walk (suc d) i q deep e f =
      let u = up_from rows shape d i q deep e in
      let q_there : path_below rows 0 i ≡ Some q = rw deep e in
      let self = below_self (path_of rows k) in
      let other : i ≢ k = λ same. (cc) in
      let longer = below_longer (path_of rows k) u.0.above (row_at rows i).name in
      let outside : is_below (path_of rows k) u.0.above ≡ false = grind arith in
      let apart = no_root i u.0.attached in
      let here = beside i other in
      let up = kept_walk d (row_at rows i).parent u.0.above u.1 u.0.found outside in
      grind (arith, nat_tests)

  -- going up in the rows after, one goes as before, and not through the subtree
  cut_walk : (d i : ℕ) (q : Path) → (row_at now i).depth ≡ d → walk now d 0 i ≡ Some q
      → (walk rows d 0 i ≡ Some q) × (is_below (path_of rows k) q ≡ false)
  cut_walk zero i q deep e =
      let none = at_top rows zero 0 i q (at_bottom rows 0 i q e) e in (
        e,
        ap (is_below (path_of rows k)) none ∙ below_none (path_of rows k) (λ h. omega (
          arith,
          z,
          one_row rows shape _ _ 0 k 0 [] (live ∙ ap (λ r. Some r) h) (root_live rows shape),
        )),
      )
  cut_walk (suc d) i q deep e =
      let u = up_from now (shaped-detached rows shape k z l) d i q deep e in
      let still = still_attached rows k i l u.0.attached in
      let here = beside i still.0 in
      let up = cut_walk d (row_at now i).parent u.0.above u.1 u.0.found in
      let apart = no_root i still.1 in
      let there : walk rows (suc d) 0 i ≡ Some q = grind (arith, nat_tests) in
      let last = below_last (path_of rows k) u.0.above (row_at rows i).name in
      let one = one_row rows shape (suc d) (row_at rows k).depth 0 i k q there in
      (there, grind arith)

  -- the rows that are left lie where they did, beside the subtree, and no others do
  pub cut : (i : ℕ) (q : Path) → path_below now 0 i ≡ Some q
      → (path_below rows 0 i ≡ Some q) × (is_below (path_of rows k) q ≡ false)
  cut i q e = rw (sym (depth i)) (cut_walk (row_at now i).depth i q refl e)

  kept : (i : ℕ) (q : Path) → path_below rows 0 i ≡ Some q → is_below (path_of rows k) q ≡ false
      → path_below now 0 i ≡ Some q
  kept i q e f = ap (λ d. walk now d 0 i) (depth i) ∙ kept_walk (row_at rows i).depth i q refl e f

  pub ids-detached : ids now ≡ pruned (ids rows) (path_of rows k)
  ids-detached =
      ids_are now (shaped-detached rows shape k z l) (pruned (ids rows) (path_of rows k))
      (λ i q e. pruned_has (ids rows) (path_of rows k) q i (id_of rows shape i q (cut i q e).0) (cut i q e).1)
      (λ i q e. let had = pruned_had (ids rows) (path_of rows k) q i e in kept i q (id_is rows q i had.0).0 had.1)

  pub nodes-detached : nodes now ≡ pruned (nodes rows) (path_of rows k)
  nodes-detached =
      nodes_are now (shaped-detached rows shape k z l) (pruned (nodes rows) (path_of rows k))
      (λ i q e. pruned_has (nodes rows) (path_of rows k) q _
      (node_of_path rows shape i q (cut i q e).0
      ∙ ap (λ n. Some n) (sym (of_both rows k _ (λ r. r.node) refl i l))) (cut i q e).1)
      (λ q n e. let had = pruned_had (nodes rows) (path_of rows k) q n e in
      let s = row_there rows q n had.0 in (s.row, kept s.row q s.lies had.1))
