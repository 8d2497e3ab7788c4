-- Five digits are a number of 32 bits, or one past them.
use Rattle.std.proofs.Common.{ℕ, ◌≡◌, ◌<◌, ◌≤◌, ◌^◌, List, [], ◌∷◌, length, take, inl, inr, sym, subst, arith, rules}
use Rattle.std.proofs.Common.{get_or}
use Rattle.std.proofs.lemmas.Bool.{cases_lt}
use Rattle.std.specs.Prelude.{nat_lt, true, false, if◌then◌else◌}
use Rattle.wbxml_ints.specs.declared.Mb.{Mb}
use Rattle.wbxml_ints.specs.declared.Mb.TheVariants as mb
use Rattle.wbxml_ints.specs.Multibyte.{IsDigits, Finds, whole_number, number_of_five}

fits : (n : ℕ) → n < 2 ^ 32 → nat_lt n (2 ^ 32) ≡ true
fits n h = grind arith

passes : (n : ℕ) → 2 ^ 32 ≤ n → nat_lt n (2 ^ 32) ≡ false
passes n h = grind arith

found_by : (bytes : List ℕ) (used number : ℕ) → used ≤ length bytes → IsDigits number (take used bytes)
    → Finds bytes (whole_number number used)
found_by bytes used number few digits =
    elim (cases_lt number (2 ^ 32)) [
      | inl small ↦ subst (λ c. Finds bytes (if c then mb.Value number used else mb.TooBig)) (sym (fits number small))
          (few, (digits, small))
      | inr big ↦ subst (λ c. Finds bytes (if c then mb.Value number used else mb.TooBig)) (sym (passes number big))
          (inr (used, number, few, digits, big))
    ]

five_digits : (a b c d e : ℕ) (rest : List ℕ) → 128 ≤ a → a < 256 → 128 ≤ b → b < 256 → 128 ≤ c → c < 256 → 128 ≤ d
    → d < 256 → e < 128
    → IsDigits (number_of_five (a ∷ b ∷ c ∷ d ∷ e ∷ [])) (take 5 (a ∷ b ∷ c ∷ d ∷ e ∷ rest))
five_digits a b c d e rest = search rules

pub five_found : (bytes : List ℕ) (r : Mb) → ((i : ℕ) → get_or bytes i 0 < 256) → 5 ≤ length bytes
    → 128 ≤ get_or bytes 0 0 → 128 ≤ get_or bytes 1 0 → 128 ≤ get_or bytes 2 0 → 128 ≤ get_or bytes 3 0
    → get_or bytes 4 0 < 128
    → r
    ≡ whole_number (number_of_five (get_or bytes 0 0 ∷ get_or bytes 1 0 ∷ get_or bytes 2 0 ∷ get_or bytes 3 0 ∷ get_or bytes 4 0
    ∷ [])) 5 → Finds bytes r
five_found (a ∷ b ∷ c ∷ d ∷ e ∷ rest) r fit len ha hb hc hd he is =
    subst (Finds (a ∷ b ∷ c ∷ d ∷ e ∷ rest)) (sym is)
    (found_by (a ∷ b ∷ c ∷ d ∷ e ∷ rest) 5 (number_of_five (a ∷ b ∷ c ∷ d ∷ e ∷ [])) (omega (arith, len))
    (five_digits a b c d e rest ha (fit 0) hb (fit 1) hc (fit 2) hd (fit 3) he))
five_found other r fit len ha hb hc hd he is = search rules
