-- The words of SplitMix64. A state of the generator is a number, and the seed is the first.
use Rattle.std.specs.Prelude.{ℕ, zero, suc}
use Rattle.rand_xoshiro.specs.SplitMix64.{mix_u64}

-- the word that a state gives
unfoldable pub word : ℕ → ℕ
word s = (mix_u64 s).0

-- the state behind it
unfoldable pub rest : ℕ → ℕ
rest s = (mix_u64 s).1

-- the state behind so many words
abbrev pub state_after : ℕ → ℕ → ℕ
state_after zero s = s
state_after (suc n) s = state_after n (rest s)
