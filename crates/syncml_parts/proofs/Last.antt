-- The last value of a list, changed where it stands.
use Rattle.std.proofs.Common.{◌≡◌, ◌<◌, ◌-◌, ℕ, suc, List, [], ◌∷◌, length, Some, slice_get, slice_set, refl, sym, ap}
use Rattle.std.proofs.Common.{◌∙◌, arith}
use Rattle.syncml_parts.specs.Packing.{list_last, last_changed}

pub less_one : (n : ℕ) → suc n - 1 ≡ n
less_one n = omega arith

pub last_next : {A : Type 0} (x y : A) (xs : List A) → list_last (x ∷ y ∷ xs) ≡ list_last (y ∷ xs)
last_next x y xs =
    ap (slice_get (x ∷ y ∷ xs)) (less_one (suc (length xs))) ∙ ap (slice_get (y ∷ xs)) (sym (less_one (length xs)))

-- the last is where the list's length less one is
pub last_set : {A : Type 0} (xs : List A) (w : A) → 0 < length xs
    → slice_set xs (length xs - 1) w ≡ last_changed (λ _. w) xs
last_set [] w h = absurd (omega (arith, h))
last_set (x ∷ []) w h = refl
last_set (x ∷ y ∷ xs) w h =
    ap (λ i. slice_set (x ∷ y ∷ xs) i w) (less_one (suc (length xs)))
    ∙ ap (λ i. x ∷ slice_set (y ∷ xs) i w) (sym (less_one (length xs)))
    ∙ ap (λ l. x ∷ l) (last_set (y ∷ xs) w (omega arith))

-- a change of the last is the last replaced by what it is changed to
pub last_is : {A : Type 0} (f : A → A) (xs : List A) (m : A) → list_last xs ≡ Some m
    → last_changed (λ _. f m) xs ≡ last_changed f xs
last_is f [] m h = refl
last_is f (x ∷ []) m h = let same : x ≡ m = cc in rw same refl
last_is f (x ∷ y ∷ xs) m h = ap (λ l. x ∷ l) (last_is f (y ∷ xs) m (sym (last_next x y xs) ∙ h))

pub last_same : {A : Type 0} (xs : List A) (m : A) → list_last xs ≡ Some m → last_changed (λ _. m) xs ≡ xs
last_same [] m h = refl
last_same (x ∷ []) m h = let same : x ≡ m = cc in rw same refl
last_same (x ∷ y ∷ xs) m h = ap (λ l. x ∷ l) (last_same (y ∷ xs) m (sym (last_next x y xs) ∙ h))
