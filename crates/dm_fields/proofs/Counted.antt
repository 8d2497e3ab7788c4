-- How many fields a line has, one after the other.
use Rattle.std.proofs.Common.{◌≡◌, ◌≢◌, ◌+◌, ◌<◌, ◌==◌, ◌∙◌, ℕ, zero, suc, Bool, true, false, List, [], ◌∷◌, length}
use Rattle.std.proofs.Common.{drop}
use Rattle.std.proofs.Common.{take, take_all, length-drop, slice_index, Some, None, refl, sym, ap, arith}
use Rattle.std.proofs.Common.{◌-◌}
use Rattle.std.specs.List.{onto_first}
use Rattle.std.proofs.lemmas.List.Splits.{length-slice_split, slice_split-cons_yes, slice_split-cons_no}
use Rattle.memchr.specs.Find.{IsFirstByte, is_byte}
use Rattle.dm_base.specs.Fields.{parts}

-- ---- the first one

none_is : (b : Bool) → (b ≡ true → ⊥) → b ≡ false
none_is true h = absurd (h refl)
none_is false h = refl

-- no byte up to a place is a space
abbrev NoneUpTo : ℕ → List ℕ → Type 0
NoneUpTo n line = (k : ℕ) → k < n → (slice_index line k == 32) ≡ true → ⊥

behind_first : (n b : ℕ) (bs : List ℕ) → NoneUpTo (suc n) (b ∷ bs) → NoneUpTo n bs
behind_first n b bs h k low is = h (suc k) (omega (arith, low)) is

no_space : (line : List ℕ) → NoneUpTo (length line) line → parts line ≡ line ∷ []
no_space [] h = refl
no_space (b ∷ bs) h =
    slice_split-cons_no (λ x. x == 32) b bs (none_is (b == 32) (h 0 (omega arith)))
    ∙ ap (onto_first b) (no_space bs (behind_first (length bs) b bs h))

first_space : (line : List ℕ) (n : ℕ) → n < length line → NoneUpTo n line → (slice_index line n == 32) ≡ true
    → parts line ≡ take n line ∷ parts (drop (suc n) line)
first_space [] n low h is = absurd (omega (arith, low))
first_space (b ∷ bs) zero low h is = slice_split-cons_yes (λ x. x == 32) b bs is
first_space (b ∷ bs) (suc n) low h is =
    slice_split-cons_no (λ x. x == 32) b bs (none_is (b == 32) (h 0 (omega arith)))
    ∙ ap (onto_first b) (first_space bs n (omega (arith, low)) (behind_first n b bs h) is)

pub one_part : (line : List ℕ) → IsFirstByte (is_byte 32) line None → parts line ≡ line ∷ []
one_part line h = no_space line (λ k low is. h k (omega arith) low is)

rest_is : (line : List ℕ) (n : ℕ) → n < length line
    → take (length line - (n + 1)) (drop (n + 1) line) ≡ drop (suc n) line
rest_is line n low =
    let long = length-drop (n + 1) line in
    let next : n + 1 ≡ suc n = omega arith in
    take_all (length line - (n + 1)) (drop (n + 1) line) (omega (arith, long)) ∙ ap (λ m. drop m line) next

pub first_part : (line : List ℕ) (n : ℕ) → IsFirstByte (is_byte 32) line (Some n)
    → parts line ≡ take n line ∷ parts (take (length line - (n + 1)) (drop (n + 1) line))
first_part line n h =
    first_space line n h.0.high (λ k low is. h.0.before k (omega arith) low is) h.1
    ∙ ap (λ l. take n line ∷ parts l) (sym (rest_is line n h.0.high))

-- ---- their number

pub more_than_one : (line first rest : List ℕ) → parts line ≡ first ∷ parts rest → length (parts line) ≢ 1
more_than_one line first rest is one =
    let long = length-slice_split (λ b. b == 32) rest in
    let number = ap length is in
    omega (arith, long, number, one)

pub one_is_few : (xs : List (List ℕ)) (x : List ℕ) (n : ℕ) → xs ≡ x ∷ [] → 1 < n → length xs ≢ n
one_is_few xs x n is more same =
    let number = ap length is in omega (arith, number, more, same)

pub another_number : (xs ys : List (List ℕ)) (x : List ℕ) (n : ℕ) → xs ≡ x ∷ ys → length ys ≢ n
    → length xs ≢ suc n
another_number xs ys x n is other same =
    let number = ap length is in other (omega (arith, number, same))
