-- The last value of a list, changed where it stands.
use Rattle.std.proofs.Common.{◌≡◌, ◌<◌, ◌-◌, ℕ, List, [], ◌∷◌, length, Some, None, slice_get, slice_set, refl}
use Rattle.std.proofs.Common.{sym, ap}
use Rattle.std.proofs.Common.{◌∙◌, arith}
use Rattle.syncml_parts.specs.Packing.{last_changed}
use Rattle.syncml_parts.proofs.Last.{less_one, last_set, last_is, last_same}

is_some_at : {A : Type 0} (xs : List A) (n : ℕ) (x : A) → Some x ≡ slice_get xs n → 0 < length xs
is_some_at [] n x e = absurd (cc)
is_some_at (y ∷ ys) n x e = omega arith

-- it is what a function gives
pub set_last : {A : Type 0} (f : A → A) (xs : List A) (x w : A) (n : ℕ) → n ≡ length xs - 1 → Some x ≡ slice_get xs n
    → w ≡ f x → slice_set xs n w ≡ last_changed f xs
set_last f xs x w n at there is =
    ap (λ m. slice_set xs m w) at ∙ last_set xs w (is_some_at xs n x there)
    ∙ ap (λ v. last_changed (λ _. v) xs) is
    ∙ last_is f xs x (ap (slice_get xs) (sym at) ∙ sym there)

-- it is as it was
pub kept_last : {A : Type 0} (xs : List A) (x w : A) (n : ℕ) → n ≡ length xs - 1 → Some x ≡ slice_get xs n → w ≡ x
    → slice_set xs n w ≡ xs
kept_last xs x w n at there is =
    ap (λ m. slice_set xs m w) at ∙ last_set xs w (is_some_at xs n x there)
    ∙ ap (λ v. last_changed (λ _. v) xs) is
    ∙ last_same xs x (ap (slice_get xs) (sym at) ∙ sym there)

some_last : {A : Type 0} (x : A) (xs : List A) → None ≡ slice_get (x ∷ xs) (length xs) → ⊥
some_last x [] e = cc
some_last x (y ∷ ys) e = some_last y ys e

-- there is none
pub none_last : {A : Type 0} (f : A → A) (xs : List A) (n : ℕ) → n ≡ length xs - 1 → None ≡ slice_get xs n
    → xs ≡ last_changed f xs
none_last f [] n at e = refl
none_last f (x ∷ xs) n at e =
    absurd (some_last x xs (e ∙ ap (slice_get (x ∷ xs)) (at ∙ less_one (length xs))))
