-- Decimal digits and the numbers that they are read as.
use Rattle.std.specs.Prelude.{◌≡◌, ◌==◌, ◌&&◌, ◌||◌, ℕ, ◌^◌, ◌<◌, ◌⊎◌, zero, suc, nat_lt, slice_index, length, Bool}
use Rattle.std.specs.Prelude.{true, false, not, if◌then◌else◌, List, [], ◌∷◌, Option, Some, None, refl}
use Rattle.std.specs.Fmt.{decimal}
use Rattle.std.specs.Str.{all_ascii_digits}
use Rattle.std.specs.Str.Parse.{digits_value}
use Rattle.std.proofs.Common.{get_or, sym, ◌∙◌, ap, arith}
use Rattle.std.proofs.lemmas.Bool.{and_parts, or_right, lt-ltb, ltb-true, eqb-true, ne_eqb}
use Rattle.std.proofs.lemmas.Fmt.{digits_decimal, digits_value-decimal, decimal_nonempty, decimal_digit, first_decimal}
use Rattle.std.proofs.lemmas.Fmt.{decimal-digits_value}
use Rattle.std.proofs.lemmas.Str.Parse.{IsNumeralModel, numerals_by_value, tells_all_ascii_digits}
use Rattle.dm_base.specs.Fields.{is_numeral, num_of}
use Rattle.dm_decimals.specs.Decimals.{DecimalIsRead, ReadIsWritten}

own : IsNumeralModel (λ ds. all_ascii_digits ds ≡ true) (digits_value 10)
own = numerals_by_value _ tells_all_ascii_digits

-- ---- what is written

num_from : (text : List ℕ) (n : ℕ) → 0 < length text → all_ascii_digits text ≡ true
    → (length text == 1 || not (slice_index text 0 == 48)) ≡ true
    → digits_value 10 text ≡ n → n < 2 ^ 64 → num_of text ≡ Some n
num_from text n some digits first is small =
    rw (lt-ltb 0 (length text) some, digits, first, is, lt-ltb n (2 ^ 64) small) refl

first_of : (n : ℕ) → n < 2 ^ 64 → (length (decimal n) == 1 || not (slice_index (decimal n) 0 == 48)) ≡ true
first_of zero small = ap (λ text. length text == 1 || not (slice_index text 0 == 48)) (decimal_digit 0 (omega arith))
first_of (suc n) small =
    let above = first_decimal (suc n) (omega arith) small in
    or_right (length (decimal (suc n)) == 1) (not (slice_index (decimal (suc n)) 0 == 48))
    (ap not (ne_eqb (slice_index (decimal (suc n)) 0) 48 (λ is. omega (arith, above, is))))

pub written_is_read : DecimalIsRead
written_is_read n small =
    num_from (decimal n) n (decimal_nonempty n small) (digits_decimal own n small) (first_of n small)
    (digits_value-decimal own n small) small

-- ---- what is read

-- an only digit may be a 0
alone : (one nought : Bool) → (one || not nought) ≡ true → nought ≡ true → one ≡ true
alone true nought h is = refl
alone false true h is = h
alone false false h is = is

from_num : (text : List ℕ) (n : ℕ) (is_num : Bool)
    → (is_num ≡ true → is_numeral text && nat_lt (digits_value 10 text) (2 ^ 64) ≡ true)
    → (if is_num then Some (digits_value 10 text) else None) ≡ Some n → decimal n ≡ text
from_num text n true tells h =
    let whole = and_parts (is_numeral text) (nat_lt (digits_value 10 text) (2 ^ 64)) (tells refl) in
    let numeral = and_parts (nat_lt 0 (length text) && all_ascii_digits text)
    (length text == 1 || not (slice_index text 0 == 48)) whole.0 in
    let digits = and_parts (nat_lt 0 (length text)) (all_ascii_digits text) numeral.0 in
    let same : digits_value 10 text ≡ n = cc in
    ap decimal (sym same)
    ∙ decimal-digits_value own text digits.1 (ltb-true 0 (length text) digits.0)
    (λ is. eqb-true (length text) 1 (alone (length text == 1) (slice_index text 0 == 48) numeral.1
    (ap (λ (b : ℕ). b == 48) is)))
    (ltb-true (digits_value 10 text) (2 ^ 64) whole.1)
from_num text n false tells h = absurd (cc)

pub read_is_written : ReadIsWritten
read_is_written text n h = from_num text n (is_numeral text && nat_lt (digits_value 10 text) (2 ^ 64)) (λ is. is) h
