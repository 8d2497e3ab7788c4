-- Decimal numbers as texts of elements: they have no byte 00.
use Rattle.std.proofs.Common.{◌≡◌, ◌<◌, ◌^◌, ◌==◌, ℕ, Bool, true, not, List, [], ◌∷◌, refl, arith, leb}
use Rattle.std.proofs.lemmas.Bool.{leb-true, ne_eqb, and_parts}
use Rattle.std.proofs.lemmas.Fmt.{digits_decimal}
use Rattle.std.proofs.lemmas.Str.Parse.{IsNumeralModel, numerals_by_value, tells_all_ascii_digits}
use Rattle.std.specs.Char.{is_ascii_digit}
use Rattle.std.specs.Fmt.{decimal}
use Rattle.std.specs.List.{list_all}
use Rattle.std.specs.Str.{all_ascii_digits}
use Rattle.std.specs.Str.Parse.{digits_value}

own : IsNumeralModel (λ ds. all_ascii_digits ds ≡ true) (digits_value 10)
own = numerals_by_value _ tells_all_ascii_digits

digit_clear : (b : ℕ) → is_ascii_digit b ≡ true → not (b == 0) ≡ true
digit_clear b h =
    let low = leb-true 48 b (and_parts (leb 48 b) (leb b 57) h).0 in
    rw (ne_eqb b 0 (λ e. omega (arith, low, e))) refl

digits_clear : (text : List ℕ) → all_ascii_digits text ≡ true → list_all (λ b. not (b == 0)) text ≡ true
digits_clear [] h = refl
digits_clear (b ∷ bs) h =
    let parts = and_parts (is_ascii_digit b) (all_ascii_digits bs) h in
    rw (digit_clear b parts.0, digits_clear bs parts.1) refl

pub decimal_clear : (n : ℕ) → n < 2 ^ 64 → list_all (λ b. not (b == 0)) (decimal n) ≡ true
decimal_clear n small = digits_clear (decimal n) (digits_decimal own n small)
