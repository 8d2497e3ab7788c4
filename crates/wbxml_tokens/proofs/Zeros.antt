-- The bytes before the first 0.
use Rattle.std.proofs.Common.{ℕ, zero, suc, ◌≡◌, ◌<◌, List, [], ◌∷◌, length, take, slice_index, refl, sym, ap, ◌∙◌}
use Rattle.std.proofs.Common.{arith}
use Rattle.std.specs.Prelude.{◌==◌, Bool, true, false, if◌then◌else◌, Option, Some, None}
use Rattle.memchr.specs.Find.{IsFirstByte, is_byte}
use Rattle.wbxml_tokens.specs.Fronts.{until_zero}

none_is : (b : Bool) → (b ≡ true → ⊥) → b ≡ false
none_is true h = absurd (h refl)
none_is false h = refl

-- no byte up to a place is 0
abbrev NoneUpTo : ℕ → List ℕ → Type 0
NoneUpTo n bytes = (k : ℕ) → k < n → (slice_index bytes k == 0) ≡ true → ⊥

behind_first : (n b : ℕ) (bs : List ℕ) → NoneUpTo (suc n) (b ∷ bs) → NoneUpTo n bs
behind_first n b bs h k low is = h (suc k) (omega (arith, low)) is

goes_on : (b : ℕ) (bs : List ℕ) → (b == 0) ≡ false → until_zero (b ∷ bs) ≡ b ∷ until_zero bs
goes_on b bs e = ap (λ (c : Bool). if c then [] else b ∷ until_zero bs) e

zero_nowhere : (bytes : List ℕ) → NoneUpTo (length bytes) bytes → bytes ≡ until_zero bytes
zero_nowhere [] h = refl
zero_nowhere (b ∷ bs) h =
    sym (goes_on b bs (none_is (b == 0) (h 0 (omega arith)))
    ∙ ap (λ x. b ∷ x) (sym (zero_nowhere bs (behind_first (length bs) b bs h))))

zero_there : (bytes : List ℕ) (n : ℕ) → n < length bytes → NoneUpTo n bytes → (slice_index bytes n == 0) ≡ true
    → take n bytes ≡ until_zero bytes
zero_there [] n low h is = absurd (omega (arith, low))
zero_there (b ∷ bs) zero low h is = sym (ap (λ (c : Bool). if c then [] else b ∷ until_zero bs) is)
zero_there (b ∷ bs) (suc n) low h is =
    ap (λ x. b ∷ x) (zero_there bs n (omega (arith, low)) (behind_first n b bs h) is)
    ∙ sym (goes_on b bs (none_is (b == 0) (h 0 (omega arith))))

-- the bytes up to what is searched
abbrev pub up_to : Option ℕ → List ℕ → List ℕ
up_to None bytes = bytes
up_to (Some n) bytes = take n bytes

pub before_zero : (bytes : List ℕ) (r : Option ℕ) → IsFirstByte (is_byte 0) bytes r → up_to r bytes ≡ until_zero bytes
before_zero bytes None h = zero_nowhere bytes (λ k low is. h k (omega arith) low is)
before_zero bytes (Some n) h = zero_there bytes n h.0.high (λ k low is. h.0.before k (omega arith) low is) h.1
