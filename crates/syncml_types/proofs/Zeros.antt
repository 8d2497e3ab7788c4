-- Whether a search for a byte 0 finds none.
use Rattle.std.proofs.Common.{ℕ, zero, suc, ◌≡◌, ◌==◌, ◌&&◌, ◌<◌, Bool, true, false, not, List, [], ◌∷◌, length}
use Rattle.std.proofs.Common.{slice_index, Option, Some, None, refl, sym, ap, ◌∙◌, arith}
use Rattle.std.specs.List.{list_all}
use Rattle.std.specs.Option.{is_none}
use Rattle.memchr.specs.Find.{IsFirstByte, is_byte}

abbrev not_zero : ℕ → Bool
not_zero b = not (b == 0)

-- no byte is 0
abbrev None0 : List ℕ → Type 0
None0 bytes = (k : ℕ) → k < length bytes → (slice_index bytes k == 0) ≡ true → ⊥

not_so : (b : Bool) → (b ≡ true → ⊥) → not b ≡ true
not_so true h = absurd (h refl)
not_so false h = refl

all_so : (bytes : List ℕ) → None0 bytes → list_all not_zero bytes ≡ true
all_so [] h = refl
all_so (b ∷ bs) h =
    ap (λ c. c && list_all not_zero bs) (not_so (b == 0) (h 0 (omega arith)))
    ∙ all_so bs (λ k low is. h (suc k) (omega (arith, low)) is)

both_false : (a : Bool) → (a && false) ≡ false
both_false true = refl
both_false false = refl

one_is : (bytes : List ℕ) (n : ℕ) → n < length bytes → (slice_index bytes n == 0) ≡ true
    → list_all not_zero bytes ≡ false
one_is [] n low is = absurd (omega (arith, low))
one_is (b ∷ bs) zero low is = ap (λ (c : Bool). not c && list_all not_zero bs) is
one_is (b ∷ bs) (suc n) low is =
    ap (λ c. not_zero b && c) (one_is bs n (omega (arith, low)) is) ∙ both_false (not_zero b)

pub none_zero : (bytes : List ℕ) (r : Option ℕ) → IsFirstByte (is_byte 0) bytes r
    → is_none r ≡ list_all (λ b. not (b == 0)) bytes
none_zero bytes None h = sym (all_so bytes (λ k low is. h k (omega arith) low is))
none_zero bytes (Some n) h = sym (one_is bytes n h.0.high h.1)
