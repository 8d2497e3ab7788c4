-- A row below one that was given up is freed.
use Rattle.dm_tree.specs.Frees.{spent}
use Rattle.dm_tree.proofs.Common.{◌≡◌, ℕ, zero, suc, ◌<◌, true, false, List, length, refl, sym, ◌∙◌, ap, subst, arith}
use Rattle.dm_tree.proofs.Common.{set, length-set, false_from_ne_true, nat_tests, get_or-set_same, get_or-set_other}
use Rattle.dm_tree.proofs.Common.{Row, Change, blank, row_at, node_of, walk, path_below, ids, nodes, IsTree}
use Rattle.dm_tree.proofs.Common.{IsParkedTop, attached_as, row_of, flipped, Fits, GoesAlike, IsClear, IsLeftOver}
use Rattle.dm_tree.proofs.Common.{freed, set-set}
use Rattle.dm_tree.proofs.RowPaths.{attached_row}
use Rattle.dm_tree.proofs.NodeEdits.{of_both}
use Rattle.dm_tree.proofs.SubtreeCuts.{still_attached}
use Rattle.dm_tree.proofs.GivenUpRows.{tree-given_up}
use Rattle.dm_tree.proofs.FlippedRows.{other_row, kin-flipped}
use Rattle.dm_tree.proofs.UndoPromises.{alike-given_up}
use Rattle.dm_tree.proofs.SamePaths.{no_way, ids_by, nodes_by}
use Rattle.dm_tree.proofs.ClearRows.{clear-less}
use Rattle.dm_tree.proofs.UndoFlips.{parked-taken_out}
use Rattle.dm_tree.proofs.CutTrees.{tree-out}
use Rattle.dm_tree.proofs.FlipsBeside.{IsReason, set-lasts, alike-beside, alike-then}

-- what is left of it is a row without contents
pub freed_is : (rows : List Row) (k : ℕ) → k < length rows → freed rows k ≡ set rows k (spent (row_at rows k))
freed_is rows k l = rw (node_of, get_or-set_same, set-set) refl

module _ (rows : List Row) (k : ℕ) (left : IsLeftOver rows k) (tree : IsTree rows) where
  place : (0 < k) × (k < length rows)
  place = attached_row rows tree.shape k left.attached

  -- once it is out, one comes up from each row to the root as before
  walk-out : (d j : ℕ) → walk (attached_as rows k false) d 0 j ≡ walk rows d 0 j
  walk-out zero j = refl
  walk-out (suc d) j =
      let new = get_or-set_same rows k (record (row_at rows k) { attached = false }) blank place.1 in
      let other = get_or-set_other rows k j (record (row_at rows k) { attached = false }) blank in
      let left_out = no_way rows d 0 (row_at rows k).parent (λ z. omega (arith, z, left.below_root)) left.out in
      let up = walk-out d (row_at rows j).parent in
      let below = place.0 in
      grind (arith, nat_tests)

  outside : (j : ℕ) → path_below (attached_as rows k false) 0 j ≡ path_below rows 0 j
  outside j =
      ap (λ d. walk (attached_as rows k false) d 0 j) (of_both rows k _ (λ s. s.depth) refl j place.1)
      ∙ walk-out (row_at rows j).depth j

  ids-left : ids (attached_as rows k false) ≡ ids rows
  ids-left = ids_by (attached_as rows k false) rows (length-set rows k _) outside

  nodes-left : nodes (attached_as rows k false) ≡ nodes rows
  nodes-left =
      nodes_by (attached_as rows k false) rows ids-left (λ j q e. of_both rows k _ (λ s. s.node) refl j place.1)

  pub tree-left : IsTree (attached_as rows k false)
  tree-left = tree-out rows tree k place.0 place.1 (λ j q e. sym (outside j) ∙ e)

  pub parked-left : IsParkedTop (attached_as rows k false) k
  parked-left = parked-taken_out rows k tree place.1 left.attached

  pub tree-freed : IsTree (freed rows k)
  tree-freed = tree-given_up (attached_as rows k false) tree-left k parked-left

-- ---- Undos of other rows

-- a row that is left over stays so, whatever is flipped beside it: what was given up isn't put in again
left-flipped : (rows : List Row) (u : Change) (k : ℕ) → (row_of u ≡ k → ⊥) → Fits rows u → IsLeftOver rows k
    → IsLeftOver (flipped rows u) k
left-flipped rows u k d f left = record {
  attached = ap (λ (s : Row). s.attached) here ∙ left.attached;
  below_root = omega (arith, left.below_root, ap (λ (s : Row). s.parent) here);
  out = out;
  given_up = given;
}
  where
    here : row_at (flipped rows u) k ≡ row_at rows k
    here = other_row rows u k d

    given : (row_at (flipped rows u) (row_at (flipped rows u) k).parent).given_up ≡ true
    given =
        rw here (kin-flipped (λ s. s.given_up) (λ s a name n. refl) rows u f.inside (row_at rows k).parent
        ∙ left.given_up)

    out : (row_at (flipped rows u) (row_at (flipped rows u) k).parent).attached ≡ false
    out = false_from_ne_true _ (λ e.
        let place = attached_row (flipped rows u) f.sound.shape _ e in
        let not_up = (f.sound.each _ place.1).attached e in
        let up = given in cc)

abbrev LeftOut : ℕ → List Row → List Row → Type 0
LeftOut k a b = IsLeftOver a k × (b ≡ attached_as a k false)

reason-left : (k : ℕ) → IsReason k (LeftOut k)
reason-left k = record {
  lasts = λ a b u d f ok.
      (left-flipped a u k d f ok.0, set-lasts k (λ (s : Row). record s { attached = false }) a b u d ok.1);
  longer = λ a b ok. omega (arith, ap length ok.1, length-set a k (record (row_at a k) { attached = false }));
  other = λ a b ok j d. ap (λ s. row_at s j) ok.1 ∙ get_or-set_other a k j _ blank d;
  tree = λ a b tree ok. subst IsTree (sym ok.1) (tree-left a k ok.0 tree);
  nodes = λ a b tree ok. ap nodes ok.1 ∙ nodes-left a k ok.0 tree;
  ids = λ a b tree ok. ap ids ok.1 ∙ ids-left a k ok.0 tree;
  clear = λ a b tree ok i j oj c. let l = (attached_row a tree.shape k ok.0.attached).1 in
      subst (λ s. IsClear s i j) (sym ok.1)
      (clear-less a (attached_as a k false)
      (λ m. of_both a k (record (row_at a k) { attached = false }) (λ s. s.parent) refl m l)
      (λ m at. (still_attached a k m l at).1) i j c);
}

-- freeing it leaves all Undos of other rows usable
pub alike-freed : (rows : List Row) → IsTree rows → (k : ℕ) → IsLeftOver rows k
    → GoesAlike (λ j. j ≡ k → ⊥) rows (freed rows k)
alike-freed rows tree k left =
    alike-then (λ j. j ≡ k → ⊥)
    (alike-beside k (LeftOut k) (reason-left k) rows (attached_as rows k false) tree (left, refl))
    (alike-given_up (attached_as rows k false) k (tree-left rows k left tree) (parked-left rows k left tree))
