-- The words that the generator gives.
use Rattle.std.proofs.Common.{◌≡◌, ℕ, ap}
use Rattle.rand_xoshiro.specs.SplitMix64.{mix_u64}
use Rattle.dm_bench.specs.Words.{word, rest}

pub word_is : (w s t : ℕ) → (w, t) ≡ mix_u64 s → w ≡ word s
unfolding word
word_is w s t is = ap (λ p. p.0) is

pub rest_is : (w s t : ℕ) → (w, t) ≡ mix_u64 s → t ≡ rest s
unfolding rest
rest_is w s t is = ap (λ p. p.1) is
