-- What is told of the items of a list one after the other holds of all.
use Rattle.std.proofs.Common.{ℕ, zero, suc, ◌≡◌, ◌<◌, ◌≤◌, ◌+◌, List, [], ◌∷◌, length, take, slice_index_or, subst}
use Rattle.std.proofs.Common.{arith}
use Rattle.std.specs.List.{AllByRecursion}

next_told : {A : Type 0} (P : A → Type 0) (xs : List A) (i : ℕ) (d : A) → i < length xs → AllByRecursion P (take i xs)
    → P (slice_index_or xs i d)
    → AllByRecursion P (take (suc i) xs)
next_told P [] i d low told one = absurd (omega (arith, low))
next_told P (x ∷ xs) zero d low told one = (one, tt)
next_told P (x ∷ xs) (suc i) d low told one = (told.0, next_told P xs i d (omega (arith, low)) told.1 one)

-- one item more
pub one_told : {A : Type 0} (P : A → Type 0) (xs : List A) (i : ℕ) (d : A) → i < length xs
    → AllByRecursion P (take i xs) → P (slice_index_or xs i d)
    → AllByRecursion P (take (i + 1) xs)
one_told P xs i d low told one =
    let next : suc i ≡ i + 1 = omega arith in
    subst (λ n. AllByRecursion P (take n xs)) next (next_told P xs i d low told one)

-- no item is left
pub all_told : {A : Type 0} (P : A → Type 0) (xs : List A) (i : ℕ) → length xs ≤ i → AllByRecursion P (take i xs)
    → AllByRecursion P xs
all_told P [] i few told = tt
all_told P (x ∷ xs) zero few told = absurd (omega (arith, few))
all_told P (x ∷ xs) (suc i) few told = (told.0, all_told P xs i (omega (arith, few)) told.1)
