-- What is read digit by digit is decimal text.
use Rattle.std.specs.Prelude.{◌≡◌, ◌==◌, ◌&&◌, ◌||◌, ℕ, ◌+◌, ◌*◌, ◌-◌, ◌^◌, ◌<◌, ◌≤◌, ◌≢◌, ◌⊎◌, nat_lt}
use Rattle.std.specs.Prelude.{nat_le, length, Bool, true, false, not, if◌then◌else◌, List, [], ◌∷◌, Option}
use Rattle.std.specs.Prelude.{Some, None, refl}
use Rattle.std.specs.Char.{digit_value}
use Rattle.std.specs.Str.{all_ascii_digits}
use Rattle.std.specs.Str.Parse.{digits_value_after}
use Rattle.std.proofs.Common.{sym, ◌∙◌, ap, arith, inl, inr}
use Rattle.std.proofs.lemmas.Bool.{and_parts, cases_eq, cases_lt, lt-ltb, le-ltb, leb-true, ne_eqb}
use Rattle.std.proofs.lemmas.Str.{digit_value_digit}
use Rattle.syncml_grammar.specs.declared.digits.Digits.TheVariants.{Number, Bad}
use Rattle.syncml_grammar.specs.Numbers.{is_digit, longer, digit_after, digits_after, number_in}
use Rattle.syncml_grammar.specs.Decimals.{NumbersAreDecimal, PiecesAreText}

-- the number of digits, where it has 64 bits
abbrev fitting : Bool → ℕ → Option ℕ
fitting all n = if all && nat_lt n (2 ^ 64) then Some n else None

same_bad : (b : Bool) → (if b then Bad else Bad) ≡ Bad
same_bad true = refl
same_bad false = refl

stays_bad : (text : List ℕ) → digits_after Bad text ≡ Bad
stays_bad [] = refl
stays_bad (c ∷ text) = ap (λ d. digits_after d text) (same_bad (is_digit c)) ∙ stays_bad text

none_bad : (text : List ℕ) → number_in (digits_after Bad text) ≡ None
none_bad text = ap number_in (stays_bad text)

grows : (n : ℕ) (text : List ℕ) → n ≤ digits_value_after 10 n text
grows n [] = omega arith
grows n (c ∷ text) = omega (arith, grows (n * 10 + digit_value c) text)

digit_range : (c : ℕ) → is_digit c ≡ true → (48 ≤ c) × (c ≤ 57)
digit_range c h = let range = and_parts (nat_le 48 c) (nat_le c 57) h in (leb-true 48 c range.0, leb-true c 57 range.1)

digit_is : (c : ℕ) → is_digit c ≡ true → digit_value c ≡ c - 48
digit_is c h = omega (arith, digit_value_digit c (digit_range c h))

-- ---- the digits behind the first

too_large : (all : Bool) (n : ℕ) → 2 ^ 64 ≤ n → fitting all n ≡ None
too_large true n h = rw (le-ltb n (2 ^ 64) h) refl
too_large false n h = refl

positive : (n : ℕ) → 0 < n → (n == 0) ≡ false
positive n h = ne_eqb n 0 (λ is. omega (arith, h, is))

-- the number with one digit more, by cases
longer_fits : (n digit : ℕ) → 0 < n → n * 10 + digit < 2 ^ 64 → longer n digit ≡ Number (n * 10 + digit)
longer_fits n digit h low = rw (positive n h, lt-ltb (n * 10 + digit) (2 ^ 64) low) refl

longer_bad : (n digit : ℕ) → 0 < n → 2 ^ 64 ≤ n * 10 + digit → longer n digit ≡ Bad
longer_bad n digit h high = rw (positive n h, le-ltb (n * 10 + digit) (2 ^ 64) high) refl

-- what digits give behind a number
abbrev GoesOn : List ℕ → Type 0
GoesOn text =
    (n : ℕ) → 0 < n → n < 2 ^ 64
    → number_in (digits_after (Number n) text) ≡ fitting (all_ascii_digits text) (digits_value_after 10 n text)

one_more : (c n : ℕ) (text : List ℕ) → GoesOn text → 0 < n → digit_value c ≡ c - 48
    → (n * 10 + (c - 48) < 2 ^ 64) ⊎ (2 ^ 64 ≤ n * 10 + (c - 48))
    → number_in (digits_after (longer n (c - 48)) text)
    ≡ fitting (all_ascii_digits text) (digits_value_after 10 (n * 10 + digit_value c) text)
one_more c n text rest some is (inl low) =
    ap (λ d. number_in (digits_after d text)) (longer_fits n (c - 48) some low)
    ∙ rest (n * 10 + (c - 48)) (omega (arith, some)) low
    ∙ ap (λ d. fitting (all_ascii_digits text) (digits_value_after 10 (n * 10 + d) text)) (sym is)
one_more c n text rest some is (inr high) =
    ap (λ d. number_in (digits_after d text)) (longer_bad n (c - 48) some high)
    ∙ none_bad text
    ∙ sym (too_large (all_ascii_digits text) (digits_value_after 10 (n * 10 + digit_value c) text)
    (omega (arith, is, high, grows (n * 10 + digit_value c) text)))

reads_on : (text : List ℕ) → GoesOn text
reads_on [] n some small = rw (lt-ltb n (2 ^ 64) small) refl
reads_on (c ∷ text) n some small =
    (elim (is_digit c)
    as (λ (b : Bool). is_digit c ≡ b → number_in (digits_after (if b then longer n (c - 48) else Bad) text)
    ≡ fitting (b && all_ascii_digits text) (digits_value_after 10 (n * 10 + digit_value c) text)) [
      | true ↦ λ is.
          one_more c n text (λ m. reads_on text m) some (digit_is c is) (cases_lt (n * 10 + (c - 48)) (2 ^ 64))
      | false ↦ λ is. none_bad text
    ]) refl

-- ---- the first digit

from_zero : (v w : ℕ) → v ≡ w → 0 * 10 + v ≡ w
from_zero v w h = omega (arith, h)

only_digit : (c : ℕ) → is_digit c ≡ true → Some (c - 48) ≡ fitting true (0 * 10 + digit_value c)
only_digit c is =
    sym (ap (fitting true) (from_zero (digit_value c) (c - 48) (digit_is c is))
    ∙ (rw (lt-ltb (c - 48) (2 ^ 64) (omega (arith, (digit_range c is).1))) refl))

-- a 0 before more bytes
leading_zero : (c d : ℕ) (text : List ℕ) → c ≡ 48 → number_in (digits_after (Number (c - 48)) (d ∷ text)) ≡ None
leading_zero c d text is =
    ap (λ b. number_in (digits_after (Number (b - 48)) (d ∷ text))) is
    ∙ ap (λ digits. number_in (digits_after digits text)) (same_bad (is_digit d))
    ∙ none_bad text

refused_zero : (c n : ℕ) (all one : Bool) → one ≡ false → c ≡ 48 → fitting (all && (one || not (c == 48))) n ≡ None
refused_zero c n true one more is = rw (more, is) refl
refused_zero c n false one more is = refl

allowed : (c n : ℕ) (all one : Bool) → one ≡ false → (c == 48) ≡ false
    → fitting (all && (one || not (c == 48))) n ≡ fitting all n
allowed c n true one more is = rw (more, is) refl
allowed c n false one more is = refl

first_digit : (c : ℕ) (text : List ℕ) → is_digit c ≡ true
    → number_in (digits_after (Number (c - 48)) text)
    ≡ fitting (all_ascii_digits text && (length (c ∷ text) == 1 || not (c == 48)))
    (digits_value_after 10 (0 * 10 + digit_value c) text)
first_digit c [] is = only_digit c is
first_digit c (d ∷ text) is = by (cases_eq c 48)
  where
    value : ℕ
    value = digits_value_after 10 (0 * 10 + digit_value c) (d ∷ text)

    two : (length (c ∷ d ∷ text) == 1) ≡ false
    two = ne_eqb (length (c ∷ d ∷ text)) 1 (λ e. omega (arith, e))

    by : (c ≡ 48) ⊎ (c ≢ 48)
        → number_in (digits_after (Number (c - 48)) (d ∷ text))
        ≡ fitting (all_ascii_digits (d ∷ text) && (length (c ∷ d ∷ text) == 1 || not (c == 48))) value
    by (inl same) =
        leading_zero c d text same
        ∙ sym (refused_zero c value (all_ascii_digits (d ∷ text)) (length (c ∷ d ∷ text) == 1) two same)
    by (inr other) =
        let range = digit_range c is in
        let some : 0 < c - 48 = omega (arith, range.0, other) in
        reads_on (d ∷ text) (c - 48) some (omega (arith, range.1))
        ∙ ap (λ n. fitting (all_ascii_digits (d ∷ text)) (digits_value_after 10 n (d ∷ text)))
        (sym (from_zero (digit_value c) (c - 48) (digit_is c is)))
        ∙ sym (allowed c value (all_ascii_digits (d ∷ text)) (length (c ∷ d ∷ text) == 1) two (ne_eqb c 48 other))

true_front : (b x z : Bool) (n : ℕ) → b ≡ true → fitting (x && z) n ≡ fitting (b && x && z) n
true_front b x z n is = rw is refl

pub numbers_are_decimal : NumbersAreDecimal
numbers_are_decimal [] = refl
numbers_are_decimal (c ∷ text) =
    (elim (is_digit c)
    as (λ (b : Bool). is_digit c ≡ b → number_in (digits_after (if b then Number (c - 48) else Bad) text)
    ≡ fitting ((b && all_ascii_digits text) && (length (c ∷ text) == 1 || not (c == 48)))
    (digits_value_after 10 (0 * 10 + digit_value c) text)) [
      | true ↦ λ is. first_digit c text is
      | false ↦ λ is. none_bad text
    ]) refl
    ∙ true_front (nat_lt 0 (length (c ∷ text))) (is_digit c && all_ascii_digits text)
    (length (c ∷ text) == 1 || not (c == 48))
    (digits_value_after 10 (0 * 10 + digit_value c) text) (lt-ltb 0 (length (c ∷ text)) (omega arith))

-- ---- pieces

pub pieces_are_text : PiecesAreText
pieces_are_text digits [] b = refl
pieces_are_text digits (c ∷ a) b = pieces_are_text (digit_after digits c) a b
