-- Rows that don't lie below a row, and wouldn't if they were put in.
use Rattle.dm_tree.specs.Reuse.{IsOff}
use Rattle.dm_tree.proofs.Common.{◌≡◌, ◌≢◌, ℕ, zero, suc, ◌<◌, true, false, List, ◌⊎◌, length, None}
use Rattle.dm_tree.proofs.Common.{refl, sym, ◌∙◌, ap, subst, arith, inl, inr, nat_tests, Row}
use Rattle.dm_tree.proofs.Common.{Change, row_at, walk, path_below, IsShaped, IsTree, IsLive, IsParkedTop}
use Rattle.dm_tree.proofs.Common.{row_of, flipped, IsClear}
use Rattle.dm_tree.proofs.Paths.{same_or_not}
use Rattle.dm_tree.proofs.RowPaths.{attached_row, not_same, not_zero}
use Rattle.dm_tree.proofs.SubtreeCuts.{live_attached}
use Rattle.dm_tree.proofs.LiveRows.{has_parent}
use Rattle.dm_tree.proofs.FlippedRows.{other_row, kin-flipped}
use Rattle.dm_tree.proofs.SamePaths.{no_way}

-- a row from whose parent one doesn't come up to the row k
none_through : (rows : List Row) (d k j : ℕ) → j ≢ k → walk rows d k (row_at rows j).parent ≡ None
    → walk rows (suc d) k j ≡ None
none_through rows d k j other above = grind (arith, nat_tests)

-- ---- where other rows are attached than before

-- the parents of the rows that are attached are as they were, and those that weren't attached lay off the row k
abbrev NoneComes : List Row → List Row → ℕ → Type 0
NoneComes a b k =
    (j : ℕ) → (row_at b j).attached ≡ true
    → ((row_at b j).parent ≡ (row_at a j).parent)
    × (((row_at a j).attached ≡ true) ⊎ IsOff a k (row_at a j).parent)

-- then one comes up to it from no more rows
off-kept : (a b : List Row) (k : ℕ) → NoneComes a b k → (d j : ℕ) → walk a d k j ≡ None → walk b d k j ≡ None
off-kept a b k less zero j e = e
off-kept a b k less (suc d) j e =
    let was = less j in
    let up = off-kept a b k less d (row_at a j).parent in
    grind (arith, nat_tests)

clear-kept : (a b : List Row) (k j : ℕ) → NoneComes a b k → (row_at b j).parent ≡ (row_at a j).parent → IsClear a k j
    → IsClear b k j
clear-kept a b k j less parent c = record {
  other = c.other;
  parent = λ y d. ap (walk b d k) parent ∙ off-kept a b k less d (row_at a j).parent (c.parent y d);
}

-- where rows are only taken out
pub clear-less : (a b : List Row) → ((j : ℕ) → (row_at b j).parent ≡ (row_at a j).parent)
    → ((j : ℕ) → (row_at b j).attached ≡ true → (row_at a j).attached ≡ true)
    → (k j : ℕ) → IsClear a k j → IsClear b k j
clear-less a b parent less k j = clear-kept a b k j (λ i at. (parent i, inl (less i at))) (parent j)

-- where a clear row is flipped
pub clear-flipped : (rows : List Row) (k : ℕ) (u : Change) → 0 < k → IsShaped rows → IsShaped (flipped rows u)
    → row_of u < length rows → IsClear rows k (row_of u) → (j : ℕ) → IsClear rows k j → IsClear (flipped rows u) k j
clear-flipped rows k u z shape shape' l clear j =
    clear-kept rows (flipped rows u) k j (λ i at. (
      parent i,
      elim (same_or_not (row_of u) i) [
        | inl e ↦ inr (subst (λ n. IsOff rows k (row_at rows n).parent) e
            (clear.parent (omega (arith, e, (attached_row (flipped rows u) shape' i at).0))))
        | inr h ↦ inl (ap (λ (s : Row). s.attached) (sym (other_row rows u i h)) ∙ at)
      ],
    )) (parent j)
  where
    parent : (i : ℕ) → (row_at (flipped rows u) i).parent ≡ (row_at rows i).parent
    parent = kin-flipped (λ s. s.parent) (λ s a name n. refl) rows u l

-- ---- rows of the tree

-- a row of the tree isn't the top of a subtree that is out
not_out : (rows : List Row) → IsShaped rows → (k : ℕ) → 0 < k → (row_at rows k).attached ≡ false → (j : ℕ)
    → IsLive rows j → j ≢ k
not_out rows shape k z out j live e =
    absurd (let at = live_attached rows shape k z (subst (IsLive rows) e live) in cc)

-- from a row of the tree one doesn't come up to a subtree that is parked
pub live-off : (rows : List Row) → IsShaped rows → (k : ℕ) → 0 < k → (row_at rows k).attached ≡ false → (d i : ℕ)
    → IsLive rows i → walk rows d k i ≡ None
live-off rows shape k z out zero i live = rw (not_same i k (not_out rows shape k z out i live)) refl
live-off rows shape k z out (suc d) i live = elim (same_or_not i 0) [
  | inl e ↦ ap (walk rows (suc d) k) e ∙ no_way rows (suc d) k 0 (λ o. omega (arith, o, z)) shape.fixed
  | inr h ↦
      none_through rows d k i (not_out rows shape k z out i live)
      (live-off rows shape k z out d (row_at rows i).parent (has_parent rows shape i live (not_zero i h)).live)
]

pub live-clear : (rows : List Row) → IsShaped rows → (k : ℕ) → IsParkedTop rows k → (i : ℕ) → IsLive rows i
    → IsClear rows k i
live-clear rows shape k top i live = record {
  other = not_out rows shape k top.below_root top.out i live;
  parent =
      λ y d. live-off rows shape k top.below_root top.out d (row_at rows i).parent
      (has_parent rows shape i live (not_zero i (λ o. omega (arith, o, y)))).live;
}

-- a clear row lies at no path below
pub clear-outside : (rows : List Row) → IsTree rows → (k j : ℕ) → 0 < k → IsClear rows k j → path_below rows k j ≡ None
clear-outside rows tree k j z c = elim (same_or_not j 0) [
  | inl e ↦ ap (path_below rows k) e ∙ no_way rows _ k 0 (λ o. omega (arith, o, z)) tree.shape.fixed
  | inr h ↦ up h (row_at rows j).depth
]
  where
    up : j ≢ 0 → (d : ℕ) → walk rows d k j ≡ None
    up h zero = rw (not_same j k c.other) refl
    up h (suc d) = none_through rows d k j c.other (c.parent (omega (arith, h)) d)
