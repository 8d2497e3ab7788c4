-- Bytes folded into a number of 64 bits, in which each place counts.
use Rattle.std.specs.Prelude.{◌+◌, ◌*◌, ◌%◌, ◌^◌, ℕ, List, [], ◌∷◌}

-- the number after these bytes
abbrev pub folded : ℕ → List ℕ → ℕ
folded sum [] = sum
folded sum (b ∷ bs) = folded ((sum * 31 % 2 ^ 64 + b) % 2 ^ 64) bs
