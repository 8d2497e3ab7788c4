-- Paths: their order, their ends, and which begins which.
use Rattle.std.specs.Cmp.{IsTotalOrder, nat_cmp_total}
use Rattle.std.specs.Cmp.Lexicographic.{lists_total}
use Rattle.std.specs.FinMap.{IsAntisymmetric, nat_cmp-IsAntisymmetric, slice_cmp-IsAntisymmetric}
use Rattle.std.proofs.lemmas.List.{take_all}
pub use Rattle.std.proofs.lemmas.Bool.{cases_lt as below_or_not, cases_eq as same_or_not}
use Rattle.dm_tree.proofs.Common.{◌≡◌, ◌≢◌, ℕ, ◌≤◌, true, false, List, [], ◌∷◌, ◌++◌, length, refl, sym, ◌∙◌, ap, arith}
use Rattle.dm_tree.proofs.Common.{◌⊎◌, inl, inr, length-append, take, cases_Bool, false_from_ne_true, Ordering, Equal}
use Rattle.dm_tree.proofs.Common.{eq_by_cmp, is_eq, tied_itself, length-take, take-append-le, take-length, Path}
use Rattle.dm_tree.proofs.Common.{tree_order, is_below}

pub tree_total : IsTotalOrder tree_order
tree_total = lists_total (lists_total nat_cmp_total)

pub tree_exact : IsAntisymmetric tree_order
tree_exact = slice_cmp-IsAntisymmetric (slice_cmp-IsAntisymmetric nat_cmp-IsAntisymmetric)

-- a path is longer than none, and its last name and the rest are known from it
pub longer : (q : Path) (m : List ℕ) (ms : Path) → q ++ m ∷ ms ≡ [] → ⊥
longer [] m ms e = cc
longer (x ∷ q) m ms e = cc

pub not_empty : (r : Path) (n : List ℕ) → r ++ n ∷ [] ≡ [] → ⊥
not_empty r n = longer r n []

pub same_ends : (r s : Path) (m n : List ℕ) → r ++ m ∷ [] ≡ s ++ n ∷ [] → (r ≡ s) × (m ≡ n)
same_ends [] [] m n e = (refl, cc)
same_ends [] (y ∷ s) m n e = let tail : [] ≡ s ++ n ∷ [] = cc in absurd (not_empty s n (sym tail))
same_ends (x ∷ r) [] m n e = let tail : r ++ m ∷ [] ≡ [] = cc in absurd (not_empty r m tail)
same_ends (x ∷ r) (y ∷ s) m n e =
    let heads : x ≡ y = cc in
    let tails : r ++ m ∷ [] ≡ s ++ n ∷ [] = cc in
    let both = same_ends r s m n tails in
    (λ i. heads i ∷ both.0 i, both.1)

-- paths that compare equal are equal
pub is_equal : (r : Ordering) → is_eq r ≡ true → r ≡ Equal
is_equal r e = grind (arith, e)

pub same_path : (p q : Path) → eq_by_cmp tree_order p q ≡ true → p ≡ q
same_path p q e = tree_exact p q (is_equal (tree_order p q) e)

pub other_path : (q p : Path) → eq_by_cmp tree_order q p ≡ false → q ≡ p → ⊥
other_path q p is e = let yes : eq_by_cmp tree_order q p ≡ true =
    ap (λ r. eq_by_cmp tree_order q r) (sym e) ∙ ap is_eq (tied_itself tree_total q) in cc

pub path_or_not : (p q : Path) → (p ≡ q) ⊎ (p ≢ q)
path_or_not p q = elim (cases_Bool (eq_by_cmp tree_order p q)) [
  | inl is ↦ inl (same_path p q is)
  | inr is ↦ inr (other_path p q is)
]

-- a list that isn't empty has a last member
pub data Ends : Path → Type 0 where
  none : Ends []
  last : (front : Path) (n : List ℕ) → Ends (front ++ n ∷ [])

pub ends : (p : Path) → Ends p
ends [] = none
ends (n ∷ ns) = later n ns (ends ns)
  where
    later : (n : List ℕ) (ns : Path) → Ends ns → Ends (n ∷ ns)
    later n [] none = last [] n
    later n ns (last front m) = last (n ∷ front) m

pub equal_below : (p q : Path) → is_below p q ≡ true → take (length p) q ≡ p
equal_below p q e = same_path _ _ e

pub below_equal : (p q : Path) → take (length p) q ≡ p → is_below p q ≡ true
below_equal p q e = ap (λ r. eq_by_cmp tree_order r p) e ∙ ap is_eq (tied_itself tree_total p)

pub below_self : (p : Path) → is_below p p ≡ true
below_self p = below_equal p p (take-length p)

pub below_longer : (p r : Path) (n : List ℕ) → is_below p r ≡ true → is_below p (r ++ n ∷ []) ≡ true
below_longer p r n e =
    let same = equal_below p r e in
    let fits : length p ≤ length r = omega (arith, ap length same, length-take (length p) r) in
    below_equal p (r ++ n ∷ []) (take-append-le (length p) r (n ∷ []) fits ∙ same)

pub below_last : (p r : Path) (n : List ℕ) → is_below p (r ++ n ∷ []) ≡ true → is_below p r ≡ false → p ≡ r ++ n ∷ []
below_last p r n e f =
    let same = equal_below p (r ++ n ∷ []) e in
    elim (below_or_not (length r) (length p)) [
      | inl h ↦ sym same ∙ take_all (length p) (r ++ n ∷ []) (omega (arith, length-append r (n ∷ [])))
      | inr h ↦ let yes : is_below p r ≡ true = below_equal p r (sym (take-append-le (length p) r (n ∷ []) h) ∙ same) in
          absurd (cc)
    ]

pub below_none : (p : Path) → (p ≡ [] → ⊥) → is_below p [] ≡ false
below_none p some =
    false_from_ne_true _ (λ is. some (sym (equal_below p [] is) ∙ take_all (length p) [] (omega arith)))
