-- Behind the shorter of two lists, their lengths decide.
use Rattle.std.proofs.Common.{Ordering, ℕ, zero, suc, ◌≡◌, List, [], ◌∷◌, length, drop, arith, refl, ◌∙◌}
use Rattle.std.specs.Prelude.{min}
use Rattle.std.specs.Ordering.{nat_cmp}
use Rattle.std.specs.Cmp.Lexicographic.{slice_cmp}
use Rattle.std.proofs.lemmas.Grind.{common_steps}

next_cmp : (m n : ℕ) → nat_cmp m n ≡ nat_cmp (suc m) (suc n)
next_cmp m n = grind (arith, common_steps)

pub end_decides : {X : Type 0} (R : X → X → Ordering) (i : ℕ) (xs ys : List X) → i ≡ min (length xs) (length ys)
    → slice_cmp R (drop i xs) (drop i ys) ≡ nat_cmp (length xs) (length ys)
end_decides R zero [] [] e = refl
end_decides R zero [] (y ∷ ys) e = grind (arith, common_steps)
end_decides R zero (x ∷ xs) [] e = grind (arith, common_steps)
end_decides R zero (x ∷ xs) (y ∷ ys) e = absurd (omega (arith, e))
end_decides R (suc i) [] ys e = absurd (omega (arith, e))
end_decides R (suc i) (x ∷ xs) [] e = absurd (omega (arith, e))
end_decides R (suc i) (x ∷ xs) (y ∷ ys) e = end_decides R i xs ys (omega (arith, e)) ∙ next_cmp (length xs) (length ys)
