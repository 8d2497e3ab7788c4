-- Numbers of which each is above the one before it.
use Rattle.std.specs.Prelude.{◌&&◌, ℕ, Bool, true, nat_lt, List, [], ◌∷◌}

abbrev pub is_rising : List ℕ → Bool
is_rising [] = true
is_rising (n ∷ []) = true
is_rising (n ∷ m ∷ ns) = nat_lt n m && is_rising (m ∷ ns)
