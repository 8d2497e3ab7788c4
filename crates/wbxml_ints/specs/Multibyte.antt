-- Multibyte integers: WBXML 1.3, section 5.1, here of at most five bytes and 32 bits.
use Rattle.std.specs.Prelude.{◌≡◌, ℕ, zero, suc, ◌+◌, ◌*◌, ◌-◌, ◌/◌, ◌%◌, ◌<◌, ◌≤◌, ◌^◌, if◌then◌else◌, nat_lt, List}
use Rattle.std.specs.Prelude.{[], ◌∷◌, length, take, ⊤, ◌⊎◌}
use Rattle.wbxml_ints.specs.declared.Mb.{Mb}
use Rattle.wbxml_ints.specs.declared.Mb.TheVariants as mb

-- behind digits that stand for a value, with so many bytes left, the bytes end the digits of a number
abbrev pub IsDigitsFrom : ℕ → ℕ → ℕ → List ℕ → Type 0
IsDigitsFrom number value left [] = ⊥
IsDigitsFrom number value zero (b ∷ bs) = ⊥
IsDigitsFrom number value (suc left) (b ∷ []) = (b < 128) × (number ≡ value * 128 + b)
IsDigitsFrom number value (suc left) (b ∷ c ∷ bs) =
    (128 ≤ b) × (b < 256) × IsDigitsFrom number (value * 128 + (b - 128)) left (c ∷ bs)

-- one to five bytes of seven bits each, the most significant first, all but the last from 128 on
abbrev pub IsDigits : ℕ → List ℕ → Type 0
IsDigits number bytes = IsDigitsFrom number 0 5 bytes

-- digits of a number of 32 bits
abbrev pub IsMultibyte : ℕ → List ℕ → Type 0
IsMultibyte number bytes = IsDigits number bytes × (number < 2 ^ 32)

-- each byte says that another follows
abbrev pub AllGoOn : List ℕ → Type 0
AllGoOn [] = ⊤
AllGoOn (b ∷ bs) = (128 ≤ b) × AllGoOn bs

-- five bytes that all go on, or the digits of a number past 32 bits
abbrev pub IsTooBig : List ℕ → Type 0
IsTooBig bytes =
    ((5 ≤ length bytes) × AllGoOn (take 5 bytes))
    ⊎ ((used number : ℕ) × (used ≤ length bytes) × IsDigits number (take used bytes) × (2 ^ 32 ≤ number))

-- what stands at the front of bytes
abbrev pub Finds : List ℕ → Mb → Type 0
Finds bytes (mb.Value number used) = (used ≤ length bytes) × IsMultibyte number (take used bytes)
Finds bytes mb.More = (length bytes < 5) × AllGoOn bytes
Finds bytes mb.TooBig = IsTooBig bytes

-- a number whose last digit was found
abbrev pub whole_number : ℕ → ℕ → Mb
whole_number number used = if nat_lt number (2 ^ 32) then mb.Value number used else mb.TooBig

-- digits that stand for a value, and behind them, with so many bytes left, these bytes
abbrev pub integer_from : ℕ → ℕ → ℕ → List ℕ → Mb
integer_from value used zero bytes = mb.TooBig
integer_from value used (suc left) [] = mb.More
integer_from value used (suc left) (b ∷ bs) =
    if nat_lt b 128 then whole_number (value * 128 + b) (suc used)
    else integer_from (value * 128 + (b - 128)) (suc used) left bs

-- what stands at the front of bytes, as a function of them
abbrev pub integer_at : List ℕ → Mb
integer_at bytes = integer_from 0 0 5 bytes

abbrev pub AreBytes : List ℕ → Type 0
AreBytes [] = ⊤
AreBytes (b ∷ bs) = (b < 256) × AreBytes bs

-- one thing at most stands at the front of bytes
abbrev pub OneIsFound : Type 0
OneIsFound = (bytes : List ℕ) (x y : Mb) → Finds bytes x → Finds bytes y → x ≡ y

-- seven bits of a number, with the bit that says that more follow
abbrev pub digit_of : ℕ → ℕ → ℕ
digit_of number place = 128 + number / place % 128

-- the spelling without leading zeros
abbrev pub shortest : ℕ → List ℕ
shortest n =
    if nat_lt n 0x80 then n % 128 ∷ []
    else if nat_lt n 0x4000 then digit_of n 0x80 ∷ n % 128 ∷ []
    else if nat_lt n 0x200000 then digit_of n 0x4000 ∷ digit_of n 0x80 ∷ n % 128 ∷ []
    else if nat_lt n 0x10000000 then digit_of n 0x200000 ∷ digit_of n 0x4000 ∷ digit_of n 0x80 ∷ n % 128 ∷ []
    else digit_of n 0x10000000 ∷ digit_of n 0x200000 ∷ digit_of n 0x4000 ∷ digit_of n 0x80 ∷ n % 128 ∷ []

-- ---- how a number is read

-- the number of five digits, each without its highest bit
abbrev pub number_of_five : List ℕ → ℕ
number_of_five (a ∷ b ∷ c ∷ d ∷ e ∷ []) = (((a % 128 * 128 + b % 128) * 128 + c % 128) * 128 + d % 128) * 128 + e % 128
number_of_five other = 0
