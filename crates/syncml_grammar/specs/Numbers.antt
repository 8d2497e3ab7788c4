-- Numbers in decimal, digit by digit.
use Rattle.std.specs.Prelude.{ℕ, not, ◌+◌, ◌*◌, ◌-◌, ◌^◌, ◌==◌, ◌&&◌, Bool, if◌then◌else◌, nat_le, nat_lt, List, []}
use Rattle.std.specs.Prelude.{◌∷◌, Option, Some, None}
use Rattle.syncml_grammar.specs.declared.digits.Digits.{Digits}
use Rattle.syncml_grammar.specs.declared.digits.Digits.TheVariants.{Start, Number, Bad}

abbrev pub is_digit : ℕ → Bool
is_digit byte = nat_le 48 byte && nat_le byte 57

-- the number with one digit more, where it has 64 bits and no leading zero
abbrev pub longer : ℕ → ℕ → Digits
longer n digit = if not (n == 0) && nat_lt (n * 10 + digit) (2 ^ 64) then Number (n * 10 + digit) else Bad

abbrev pub with_digit : Digits → ℕ → Digits
with_digit Start digit = Number digit
with_digit (Number n) digit = longer n digit
with_digit Bad digit = Bad

-- one more byte
abbrev pub digit_after : Digits → ℕ → Digits
digit_after digits byte = if is_digit byte then with_digit digits (byte - 48) else Bad

-- more bytes
abbrev pub digits_after : Digits → List ℕ → Digits
digits_after digits [] = digits
digits_after digits (byte ∷ bytes) = digits_after (digit_after digits byte) bytes

-- the number that the bytes are which came
abbrev pub number_in : Digits → Option ℕ
number_in Start = None
number_in (Number n) = Some n
number_in Bad = None
