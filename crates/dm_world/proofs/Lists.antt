-- Lists of which each element has a property, and what stands in a list.
use Rattle.std.proofs.Common.{zero, suc, ◌≡◌, ℕ, Bool, true, false, cond, List, [], ◌∷◌, ◌++◌, refl, sym, subst, drop}
use Rattle.std.proofs.Common.{Option, None, Some, IfSome, ◌⊎◌, inl, inr, ◌&&◌}
use Rattle.std.specs.Prelude.{slice_get}
use Rattle.dm_world.specs.World.{with_new}

abbrev pub Each : {A : Type 0} → (A → Type 0) → List A → Type 0
Each P [] = Unit {0}
Each P (x ∷ xs) = P x × Each P xs

abbrev pub StandsIn : {A : Type 0} → A → List A → Type 0
StandsIn x [] = ⊥
StandsIn x (y ∷ ys) = (x ≡ y) ⊎ StandsIn x ys

pub each-map : {A : Type 0} {P Q : A → Type 0} → ((x : A) → P x → Q x) → (xs : List A) → Each P xs → Each Q xs
each-map f [] h = tt
each-map f (x ∷ xs) h = (f x h.0, each-map f xs h.1)

pub each-append : {A : Type 0} (P : A → Type 0) (xs ys : List A) → Each P xs → Each P ys → Each P (xs ++ ys)
each-append P [] ys h k = k
each-append P (x ∷ xs) ys h k = (h.0, each-append P xs ys h.1 k)

pub each-drop : {A : Type 0} (P : A → Type 0) (n : ℕ) (xs : List A) → Each P xs → Each P (drop n xs)
each-drop P zero xs h = h
each-drop P (suc n) [] h = tt
each-drop P (suc n) (x ∷ xs) h = each-drop P n xs h.1

pub picked : {A : Type 0} (xs : List A) (k : ℕ) (x : A) → slice_get xs k ≡ Some x → StandsIn x xs
picked [] k x h = cc
picked (y ∷ ys) zero x h = inl (cc)
picked (y ∷ ys) (suc k) x h = inr (picked ys k x h)

pub each-within : {A : Type 0} (P : A → Type 0) (xs : List A) (x : A) → Each P xs → StandsIn x xs → P x
each-within P [] x h w = absurd w
each-within P (y ∷ ys) x h (inl e) = subst P (sym e) h.0
each-within P (y ∷ ys) x h (inr w) = each-within P ys x h.1 w

-- one more, where there is one
pub each-new : {A : Type 0} (P : A → Type 0) (xs : List A) (o : Option A) → Each P xs → IfSome o P
    → Each P (with_new xs o)
each-new P xs None h k = h
each-new P xs (Some x) h k = (k, h)

-- ---- choices

-- whichever way a test goes
pub either {ℓ} : {A : Type 0} (P : A → Type ℓ) (b : Bool) {x y : A} → P x → P y → P (cond b x y)
either P true h k = h
either P false h k = k

-- whichever way a test goes, and what it said
pub either_is {ℓ} : {A : Type 0} (P : A → Type ℓ) (b : Bool) {x y : A} → (b ≡ true → P x) → (b ≡ false → P y)
    → P (cond b x y)
either_is P true h k = h refl
either_is P false h k = k refl

pub both-ways : {X Y : Type 0} (P : X → Y → Type 0) (b : Bool) (x x' : X) (y y' : Y) → (b ≡ true → P x y)
    → (b ≡ false → P x' y')
    → P (cond b x x') (cond b y y')
both-ways P true x x' y y' h k = h refl
both-ways P false x x' y y' h k = k refl

pub and-left : (a b : Bool) → (a && b) ≡ true → a ≡ true
and-left true b h = refl
and-left false b h = cc

pub and-right : (a b : Bool) → (a && b) ≡ true → b ≡ true
and-right true b h = h
and-right false b h = cc
