-- Bytes of another length are others.
use Rattle.std.proofs.Common.{ℕ, ◌≡◌, ◌≢◌, ◌<◌, ◌-◌, ◌^◌, List, length, Bool, true, false, refl, ap, arith, bytes_eq}
use Rattle.std.proofs.lemmas.Slice.Eq.{bytes_eq-Decides}
use Rattle.syncml_types.specs.Lengths.{up_to_most}

other_by : (a b : List ℕ) (t : Bool) → bytes_eq a b ≡ t → (a ≡ b → ⊥) → false ≡ t
other_by a b false is other = refl
other_by a b true is other = absurd (other ((bytes_eq-Decides a b).0 is))

pub other_length : (a b : List ℕ) (n : ℕ) → n ≡ up_to_most (length b) → n ≢ length a → length a < 2 ^ 64 - 1
    → false ≡ bytes_eq a b
other_length a b n is other few =
    other_by a b (bytes_eq a b) refl (λ same. other (let e = ap length same in omega (arith, is, e, few)))
