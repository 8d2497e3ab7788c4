-- Decimal digits and the numbers that they are read as.
use Rattle.std.specs.Prelude.{◌≡◌, ◌<◌, ◌^◌, ℕ, List, Some}
use Rattle.std.specs.Fmt.{decimal}
use Rattle.dm_base.specs.Fields.{num_of}

-- what is written of a number is read as that number
abbrev pub DecimalIsRead : Type 0
DecimalIsRead = (n : ℕ) → n < 2 ^ 64 → num_of (decimal n) ≡ Some n

-- what is read as a number is written of it
abbrev pub ReadIsWritten : Type 0
ReadIsWritten = (text : List ℕ) (n : ℕ) → num_of text ≡ Some n → decimal n ≡ text
