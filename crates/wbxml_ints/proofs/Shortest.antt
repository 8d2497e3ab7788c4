-- No spelling of a number is shorter than the shortest.
use Rattle.std.proofs.Common.{ℕ, ◌<◌, ◌≤◌, List, [], ◌∷◌, length, arith, rules}
use Rattle.wbxml_ints.specs.Multibyte.{IsMultibyte, shortest}

length-shortest_one : (n : ℕ) → n < 0x80 → length (shortest n) ≤ 1
length-shortest_one n a = grind arith

length-shortest_two : (n : ℕ) → n < 0x4000 → length (shortest n) ≤ 2
length-shortest_two n a = grind arith

length-shortest_three : (n : ℕ) → n < 0x200000 → length (shortest n) ≤ 3
length-shortest_three n a = grind arith

length-shortest_four : (n : ℕ) → n < 0x10000000 → length (shortest n) ≤ 4
length-shortest_four n a = grind arith

length-shortest : (n : ℕ) → length (shortest n) ≤ 5
length-shortest n = grind arith

pub shortest_is_least : (n : ℕ) (other : List ℕ) → IsMultibyte n other → length (shortest n) ≤ length other
shortest_is_least n (a ∷ []) h = length-shortest_one n (omega arith)
shortest_is_least n (a ∷ b ∷ []) h = length-shortest_two n (omega arith)
shortest_is_least n (a ∷ b ∷ c ∷ []) h = length-shortest_three n (omega arith)
shortest_is_least n (a ∷ b ∷ c ∷ d ∷ []) h = length-shortest_four n (omega arith)
shortest_is_least n (a ∷ b ∷ c ∷ d ∷ e ∷ []) h = length-shortest n
shortest_is_least n other h = search rules
