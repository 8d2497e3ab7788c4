-- Going up from a row: the path on which it lies.
use Rattle.std.proofs.lemmas.Option.{cond_some}
use Rattle.dm_tree.proofs.Common.{◌⊎◌, ◌≡◌, ◌≢◌, ℕ, zero, suc, ◌<◌, true, false, nat_eq, List, [], ◌∷◌, ◌++◌, length}
use Rattle.dm_tree.proofs.Common.{Option, None, Some, refl, sym, ◌∙◌, ap, arith, inl, inr, length-append, Row, Path}
use Rattle.dm_tree.proofs.Common.{blank, row_at, walk, path_below, IsShaped, cases_Bool, nat_tests, get_or_past}
use Rattle.dm_tree.proofs.Common.{option_map}
use Rattle.dm_tree.proofs.Paths.{longer, not_empty, same_ends}

pub record Up (rows : List Row) (d top k : ℕ) (p : Path) : Type 0 where
  pub attached : (row_at rows k).attached ≡ true
  pub above : Path
  pub found : walk rows d top (row_at rows k).parent ≡ Some above
  pub named : p ≡ above ++ (row_at rows k).name ∷ []

pub some_of : {X Y : Type 0} (f : X → Y) (o : Option X) (y : Y) → option_map f o ≡ Some y
    → (x : X) × (o ≡ Some x) × (f x ≡ y)
some_of f None y e = absurd (cc)
some_of f (Some x) y e = (x, refl, cc)

pub walk_up : (rows : List Row) (d top k : ℕ) (p : Path) → nat_eq k top ≡ false → walk rows (suc d) top k ≡ Some p
    → Up rows d top k p
walk_up rows d top k p other e = elim (cases_Bool (row_at rows k).attached) [
  | inl joined ↦
      let u = some_of (λ q. q ++ (row_at rows k).name ∷ []) _ p (rw (other, joined) at e) in
      record { attached = joined; above = u.0; found = u.1; named = sym u.2 }
  | inr out ↦ absurd (let none : None ≡ Some p = rw (other, out) at e in cc)
]

pub some_path : (p q : Path) → Some p ≡ Some q → p ≡ q
some_path p q e = cc

pub at_top : (rows : List Row) (d top k : ℕ) (p : Path) → nat_eq k top ≡ true → walk rows d top k ≡ Some p → p ≡ []
at_top rows zero top k p is e = let some : Some [] ≡ Some p = rw is at e in cc
at_top rows (suc d) top k p is e = let some : Some [] ≡ Some p = rw is at e in cc

pub at_bottom : (rows : List Row) (top k : ℕ) (p : Path) → walk rows zero top k ≡ Some p → nat_eq k top ≡ true
at_bottom rows top k p e = (cond_some (nat_eq k top) [] p e).0

pub same_number : (k n : ℕ) → nat_eq k n ≡ true → k ≡ n
same_number k n e = grind arith

pub not_same : (m n : ℕ) → m ≢ n → nat_eq m n ≡ false
not_same m n h = grind (arith, nat_tests)

pub data Way (rows : List Row) (top k : ℕ) (p : Path) : ℕ → Type 0 where
  here : {d : ℕ} → k ≡ top → p ≡ [] → Way rows top k p d
  up : {d : ℕ} → Up rows d top k p → Way rows top k p (suc d)

pub way : (rows : List Row) (d top k : ℕ) (p : Path) → walk rows d top k ≡ Some p → Way rows top k p d
way rows zero top k p e = let is = at_bottom rows top k p e in
    here (same_number k top is) (at_top rows zero top k p is e)
way rows (suc d) top k p e = elim (cases_Bool (nat_eq k top)) [
  | inl is ↦ here (same_number k top is) (at_top rows (suc d) top k p is e)
  | inr is ↦ up (walk_up rows d top k p is e)
]

-- no two rows lie at one path
pub one_row : (rows : List Row) → IsShaped rows → (d e top i j : ℕ) (p : Path) → walk rows d top i ≡ Some p
    → walk rows e top j ≡ Some p → i ≡ j
one_row rows shape d e top i j p x y = by_ways d e i j p (way rows d top i p x) (way rows e top j p y)
  where
    by_ways : (d e i j : ℕ) (p : Path) → Way rows top i p d → Way rows top j p e → i ≡ j
    by_ways d e i j p (here a b) (here a' b') = a ∙ sym a'
    by_ways d (suc e) i j p (here a b) (up v) = absurd (not_empty v.above (row_at rows j).name (sym v.named ∙ b))
    by_ways (suc d) e i j p (up u) (here a b) = absurd (not_empty u.above (row_at rows i).name (sym u.named ∙ b))
    by_ways (suc d) (suc e) i j p (up u) (up v) =
        let ends = same_ends u.above v.above (row_at rows i).name (row_at rows j).name (sym u.named ∙ v.named) in
        shape.no_twins i j u.attached v.attached
        (by_ways d e (row_at rows i).parent (row_at rows j).parent u.above
        (way rows d top (row_at rows i).parent u.above u.found)
        (way rows e top (row_at rows j).parent u.above (v.found ∙ ap (λ q. Some q) (sym ends.0)))) ends.1

pub not_zero : (n : ℕ) → n ≢ 0 → nat_eq n 0 ≡ false
not_zero n h = not_same n 0 h

-- a row that is attached is no root, and is there
pub attached_row : (rows : List Row) → IsShaped rows → (k : ℕ) → (row_at rows k).attached ≡ true
    → (0 < k) × (k < length rows)
attached_row rows shape k at =
    let fixed = shape.fixed in (grind (arith, at, fixed), grind (arith, at, get_or_past rows k blank))

pub attached_falls : (rows : List Row) → IsShaped rows → (k : ℕ) → (row_at rows k).attached ≡ true
    → (row_at rows k).depth ≡ suc (row_at rows (row_at rows k).parent).depth
attached_falls rows shape k at = shape.falls k at

-- a row that isn't the root lies below its parent, which is one less deep
pub up_from : (rows : List Row) → IsShaped rows → (d k : ℕ) (p : Path) → (row_at rows k).depth ≡ suc d
    → walk rows (suc d) 0 k ≡ Some p → Up rows d 0 k p × ((row_at rows (row_at rows k).parent).depth ≡ d)
up_from rows shape d k p deep e =
    let other = not_zero k (λ z. omega (arith, deep, ap (λ j. (row_at rows j).depth) z, shape.at_root)) in
    let u = walk_up rows d 0 k p other e in
    (u, omega (arith, shape.falls k u.attached, deep))

-- what a child is
pub record Child (rows : List Row) (id : ℕ) (name : List ℕ) (j : ℕ) : Type 0 where
  pub attached : (row_at rows j).attached ≡ true
  pub parent : (row_at rows j).parent ≡ id
  pub named : (row_at rows j).name ≡ name

-- a child lies one name below
pub child_below : (rows : List Row) → IsShaped rows → (k j : ℕ) (p : Path) (n : List ℕ) → path_below rows 0 k ≡ Some p
    → Child rows k n j → path_below rows 0 j ≡ Some (p ++ n ∷ [])
child_below rows shape k j p n e h =
    let deep : (row_at rows j).depth ≡ suc (row_at rows k).depth =
    attached_falls rows shape j h.attached ∙ ap (λ i. suc (row_at rows i).depth) h.parent in
    let other : nat_eq j 0 ≡ false =
    not_zero j (λ z. omega (arith, deep, ap (λ i. (row_at rows i).depth) z, shape.at_root)) in
    rw deep (rw (other, h.attached, h.parent, h.named, e) refl)

-- above each row of the tree lies a row for each prefix of its path
pub record Above (rows : List Row) (q : Path) (m : List ℕ) : Type 0 where
  pub row : ℕ
  pub attached : (row_at rows row).attached ≡ true
  pub named : (row_at rows row).name ≡ m
  pub parent_there : path_below rows 0 (row_at rows row).parent ≡ Some q

-- a path that ends with one name ends right behind q and m, or further on
split_end : (q : Path) (m : List ℕ) (ms a : Path) (n : List ℕ) → q ++ m ∷ ms ≡ a ++ n ∷ []
    → ((a ≡ q) × (n ≡ m)) ⊎ ((front : Path) × (a ≡ q ++ m ∷ front))
split_end [] m ms [] n e = inl (refl, cc)
split_end [] m ms (x ∷ a) n e = inr (a, cc)
split_end (y ∷ q) m ms [] n e = let tail : q ++ m ∷ ms ≡ [] = cc in absurd (longer q m ms tail)
split_end (y ∷ q) m ms (x ∷ a) n e =
    let head : y ≡ x = cc in
    elim (split_end q m ms a n (cc)) [ inl at ↦ inl (cc, at.1) | inr far ↦ inr (far.0, cc) ]

pub above : (rows : List Row) → IsShaped rows → (d i : ℕ) (q : Path) (m : List ℕ) (ms : Path)
    → (row_at rows i).depth ≡ d → walk rows d 0 i ≡ Some (q ++ m ∷ ms) → Above rows q m
above rows shape zero i q m ms deep e = absurd (longer q m ms (at_top rows zero 0 i _ (at_bottom rows 0 i _ e) e))
above rows shape (suc d) i q m ms deep e =
    let u = up_from rows shape d i _ deep e in
    elim (split_end q m ms u.0.above (row_at rows i).name u.0.named) [
      | inl at ↦ record {
        row = i;
        attached = u.0.attached;
        named = at.1;
        parent_there = rw u.1 (u.0.found ∙ ap (λ r. Some r) at.0);
      }
      | inr far ↦
          above rows shape d (row_at rows i).parent q m far.0 u.1 (u.0.found ∙ ap (λ r. Some r) far.1)
    ]

-- a path is as long as its row is deep
pub depth_is : (rows : List Row) → IsShaped rows → (d k : ℕ) (p : Path) → (row_at rows k).depth ≡ d
    → walk rows d 0 k ≡ Some p → length p ≡ d
depth_is rows shape zero k p deep e = ap length (at_top rows zero 0 k p (at_bottom rows 0 k p e) e)
depth_is rows shape (suc d) k p deep e =
    let u = up_from rows shape d k p deep e in
    let shorter = depth_is rows shape d (row_at rows k).parent u.0.above u.1 u.0.found in
    omega (arith, shorter, ap length u.0.named, length-append u.0.above ((row_at rows k).name ∷ []))
