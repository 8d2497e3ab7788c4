-- The first place that passes, and what stands between separators.
use Rattle.std.proofs.Common.{ℕ, ◌≡◌, ◌≤◌, ◌<◌, ◌+◌, List, [], ◌∷◌, length, length-drop, take, drop, Some, None, arith}
use Rattle.std.proofs.Common.{refl, inl, inr}
use Rattle.std.specs.Prelude.{Bool, not, unwrap_or, nat_lt, if◌then◌else◌}
use Rattle.std.specs.List.{position_or_len, position, slice_split}
use Rattle.std.proofs.lemmas.Bool.{cases_lt, lt-ltb, le-ltb}
use Rattle.std.proofs.lemmas.List.Sums.{prefix_len-le-length, fails_before_first}
use Rattle.std.proofs.lemmas.List.Splits.{slice_split_none, slice_split_first}
use Rattle.dm_uri.specs.Reading.{is_slash, FirstPart}

pub first_or_length : {X : Type 0} (p : X → Bool) (xs : List X)
    → unwrap_or (if nat_lt (position_or_len p xs) (length xs) then Some (position_or_len p xs) else None) (length xs)
    ≡ position_or_len p xs
first_or_length p xs = elim (cases_lt (position_or_len p xs) (length xs)) [
  | inl inside ↦ rw (lt-ltb _ _ inside) refl
  | inr none ↦ rw (le-ltb _ _ none) (omega (arith, none, prefix_len-le-length (λ x. not (p x)) xs))
]

found_inside : (k n at : ℕ) → (if nat_lt k n then Some k else None) ≡ Some at → (k ≡ at) × (k < n)
found_inside k n at e = grind arith

none_inside : (k n : ℕ) → (if nat_lt k n then Some k else None) ≡ None → n ≤ k
none_inside k n e = grind arith

pub no_slash : (text : List ℕ) → position is_slash text ≡ None → slice_split is_slash text ≡ text ∷ []
no_slash text e =
    let past : length text ≤ position_or_len is_slash text = none_inside _ _ e in
    slice_split_none is_slash text (λ k d inside. fails_before_first is_slash text k d (omega (arith, inside, past)))

pub first_slash : (text : List ℕ) (at : ℕ) → position is_slash text ≡ Some at
    → FirstPart text (take at text) (drop (at + 1) text)
first_slash text at e =
    let found = found_inside (position_or_len is_slash text) (length text) at e in
    record {
      parts = rw (← found.0) (slice_split_first is_slash text 0 found.1);
      shorter = omega (arith, found.0, found.1, length-drop (at + 1) text);
    }
