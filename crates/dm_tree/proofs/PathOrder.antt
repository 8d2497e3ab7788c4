-- How paths stand to each other in the order of the tree text.
use Rattle.std.specs.Ordering.{nat_cmp, ordering_then}
use Rattle.std.specs.Cmp.{IsTotalOrder, nat_cmp_total}
use Rattle.std.specs.Cmp.Lexicographic.{slice_cmp, lists_total}
use Rattle.std.specs.FinMap.{IsAntisymmetric, nat_cmp-IsAntisymmetric, slice_cmp-IsAntisymmetric}
use Rattle.std.proofs.lemmas.List.{take-append-drop}
use Rattle.dm_tree.proofs.Common.{◌≡◌, ℕ, true, false, List, [], ◌∷◌, ◌++◌, length, drop, refl, sym, ◌∙◌, ap, arith}
use Rattle.dm_tree.proofs.Common.{append_assoc, length-append, is_lt, ordering_reverse, Ordering, Less, Equal, Greater}
use Rattle.dm_tree.proofs.Common.{tied_itself, false_from_ne_true, take-append-le, length-take, take-length, Path}
use Rattle.dm_tree.proofs.Common.{tree_order, is_below, is_before}
use Rattle.dm_tree.proofs.Paths.{tree_total, equal_below, below_equal}

-- ---- names

abbrev pub name_order : List ℕ → List ℕ → Ordering
name_order = slice_cmp nat_cmp

pub name_total : IsTotalOrder name_order
name_total = lists_total nat_cmp_total

pub name_exact : IsAntisymmetric name_order
name_exact = slice_cmp-IsAntisymmetric nat_cmp-IsAntisymmetric

pub is_less : (o : Ordering) → is_lt o ≡ true → o ≡ Less
is_less Less h = refl
is_less o h = absurd (cc)

-- ---- a path and what stands below it

pub rest_below : (p q : Path) → is_below p q ≡ true → q ≡ p ++ drop (length p) q
rest_below p q h = sym (take-append-drop (length p) q) ∙ ap (λ t. t ++ drop (length p) q) (equal_below p q h)

pub below_append : (p r : Path) → is_below p (p ++ r) ≡ true
below_append p r = below_equal p (p ++ r) (take-append-le (length p) p r (omega arith) ∙ take-length p)

pub below_below : (p q r : Path) → is_below p q ≡ true → is_below q r ≡ true → is_below p r ≡ true
below_below p q r a b =
    ap (is_below p)
    (rest_below q r b ∙ ap (λ s. s ++ drop (length q) r) (rest_below p q a)
    ∙ append_assoc p (drop (length p) q) (drop (length q) r)) ∙ below_append p _

pub not_below_shorter : (a : Path) (n : List ℕ) → is_below (a ++ n ∷ []) a ≡ false
not_below_shorter a n = false_from_ne_true _ (λ below.
    let same = ap length (equal_below (a ++ n ∷ []) a below) in
    omega (arith, same, length-take (length (a ++ n ∷ [])) a, length-append a (n ∷ [])))

-- ---- before

pub fork : (a : Path) (x y : List ℕ) (xs ys : Path)
    → tree_order (a ++ x ∷ xs) (a ++ y ∷ ys) ≡ ordering_then (name_order x y) (tree_order xs ys)
fork [] x y xs ys = refl
fork (n ∷ ns) x y xs ys = rw (tied_itself name_total n) (fork ns x y xs ys)

pub before_longer : (p : Path) (n : List ℕ) (ns : Path) → is_before p (p ++ n ∷ ns) ≡ true
before_longer [] n ns = refl
before_longer (m ∷ ms) n ns = rw (tied_itself name_total m) (before_longer ms n ns)

pub before_before : (p q r : Path) → is_before p q ≡ true → is_before q r ≡ true → is_before p r ≡ true
before_before p q r a b = ap is_lt (tree_total.trans p q r (is_less (tree_order p q) a) (is_less (tree_order q r) b))

pub not_before_itself : (p : Path) → is_before p p ≡ false
not_before_itself p = ap is_lt (tied_itself tree_total p)

pub not_back : (p q : Path) → is_before p q ≡ true → is_before q p ≡ false
not_back p q h = ap is_lt (tree_total.antisymm q p ∙ ap ordering_reverse (is_less (tree_order p q) h))

below_cons : (n : List ℕ) (p q : Path) → is_below (n ∷ p) (n ∷ q) ≡ is_below p q
below_cons n p q = rw (tied_itself name_total n) refl

-- what stands behind a path and not below it stands behind all that is below it
pub behind_all : (p r s : Path) → is_before p r ≡ true → is_below p r ≡ false → is_before (p ++ s) r ≡ true
behind_all [] r s h f = let yes = below_append [] r in absurd (cc)
behind_all (n ∷ p) [] s h f = absurd (cc)
behind_all (n ∷ p) (m ∷ r) s h f =
    elim (name_order n m)
    as (λ o. name_order n m ≡ o → is_lt (ordering_then o (tree_order p r)) ≡ true
    → is_lt (ordering_then o (tree_order (p ++ s) r)) ≡ true) [
      | Less ↦ λ e g. refl
      | Equal ↦ λ e g. behind_all p r s g
          (sym (below_cons n p r) ∙ ap (λ k. is_below (n ∷ p) (k ∷ r)) (name_exact n m e) ∙ f)
      | Greater ↦ λ e g. absurd (cc)
    ] refl h
