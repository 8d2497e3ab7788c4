-- Places stay, whatever is executed later.
use Rattle.std.proofs.Common.{zero, suc, ◌≡◌, ◌+◌, ℕ, List, [], ◌∷◌, ◌++◌, length, take, None, Some}
use Rattle.std.proofs.Common.{refl, sym, ◌∙◌, ap, arith, ◌⊎◌, inl, inr}
use Rattle.std.specs.Prelude.{slice_get}
use Rattle.std.proofs.lemmas.List.{length-append, take-append-le, get_or_append_left}
use Rattle.std.proofs.lemmas.Option.{slice_get_within, get_or_from_slice_get, slice_get_read}
use Rattle.dm_world.specs.Acts.{join, deeds_acts}
use Rattle.dm_world.specs.Deeds.{Deed}
use Rattle.dm_world.specs.World.{InSession}
use Rattle.dm_world.specs.Places.{place_behind, IsExecutedAt}

pub places-stay : (before later : List (InSession Deed)) (k place : ℕ) (x : InSession Deed)
    → IsExecutedAt before k place x
    → IsExecutedAt (before ++ later) k place x
places-stay before later k place x h =
    let low = slice_get_within before k x h.is in
    let long = length-append before later in
    record {
      is = slice_get_read (before ++ later) (length (before ++ later)) k x refl (omega (arith, low, long))
          (sym (get_or_append_left before later x k low ∙ get_or_from_slice_get before k x x h.is));
      act = h.act;
      act_is = h.act_is;
      place_is = ap (λ ds. place_behind (join None (deeds_acts ds)) h.act)
          (take-append-le k before later (omega (arith, low)))
          ∙ h.place_is;
    }

-- what stands in two lists stands in the first, or behind it
pub in-both : {A : Type 0} (a b : List A) (k : ℕ) (x : A) → slice_get (a ++ b) k ≡ Some x
    → (slice_get a k ≡ Some x) ⊎ ((i : ℕ) × (k ≡ length a + i) × (slice_get b i ≡ Some x))
in-both [] b k x h = inr (k, (let e : k ≡ 0 + k = omega arith in e), h)
in-both (y ∷ a) b zero x h = inl h
in-both (y ∷ a) b (suc k) x h = by (in-both a b k x h)
  where
    by : (slice_get a k ≡ Some x) ⊎ ((i : ℕ) × (k ≡ length a + i) × (slice_get b i ≡ Some x))
        → (slice_get (y ∷ a) (suc k) ≡ Some x)
        ⊎ ((i : ℕ) × (suc k ≡ length (y ∷ a) + i) × (slice_get b i ≡ Some x))
    by (inl e) = inl e
    by (inr e) = let is = e.1 in inr (e.0, omega (arith, is), e.2)

pub get-first : {A : Type 0} (a b : List A) (k : ℕ) (x : A) → slice_get a k ≡ Some x → slice_get (a ++ b) k ≡ Some x
get-first [] b k x h = cc
get-first (y ∷ a) b zero x h = h
get-first (y ∷ a) b (suc k) x h = get-first a b k x h

pub get-here : {A : Type 0} (a b : List A) (x : A) → slice_get (a ++ x ∷ b) (length a) ≡ Some x
get-here [] b x = refl
get-here (y ∷ a) b x = get-here a b x

pub take-here : {A : Type 0} (a b : List A) → take (length a) (a ++ b) ≡ a
take-here [] b = refl
take-here (x ∷ a) b = ap (λ l. x ∷ l) (take-here a b)
