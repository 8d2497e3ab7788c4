-- A field by its members.
use Rattle.std.proofs.Common.{◌≡◌, ◌+◌, ◌<◌, ◌==◌, ◌∙◌, ℕ, zero, suc, Bool, true, false, List, [], ◌∷◌, length}
use Rattle.std.proofs.Common.{drop, ◌-◌}
use Rattle.std.proofs.Common.{take, take_all, length-drop, slice_index, Some, None, refl, sym, ap, arith}
use Rattle.std.specs.List.{onto_first}
use Rattle.std.proofs.lemmas.List.Splits.{slice_split-cons_yes, slice_split-cons_no}
use Rattle.memchr.specs.Find.{IsFirstByte, is_byte}
use Rattle.dm_ddf.specs.Fields.{plus_members}

none_is : (b : Bool) → (b ≡ true → ⊥) → b ≡ false
none_is true h = absurd (h refl)
none_is false h = refl

-- no byte up to a place is a `+`
abbrev NoneUpTo : ℕ → List ℕ → Type 0
NoneUpTo n text = (k : ℕ) → k < n → (slice_index text k == 43) ≡ true → ⊥

behind_first : (n b : ℕ) (bs : List ℕ) → NoneUpTo (suc n) (b ∷ bs) → NoneUpTo n bs
behind_first n b bs h k low is = h (suc k) (omega (arith, low)) is

no_sign : (text : List ℕ) → NoneUpTo (length text) text → plus_members text ≡ text ∷ []
no_sign [] h = refl
no_sign (b ∷ bs) h =
    slice_split-cons_no (λ x. x == 43) b bs (none_is (b == 43) (h 0 (omega arith)))
    ∙ ap (onto_first b) (no_sign bs (behind_first (length bs) b bs h))

first_sign : (text : List ℕ) (n : ℕ) → n < length text → NoneUpTo n text → (slice_index text n == 43) ≡ true
    → plus_members text ≡ take n text ∷ plus_members (drop (suc n) text)
first_sign [] n low h is = absurd (omega (arith, low))
first_sign (b ∷ bs) zero low h is = slice_split-cons_yes (λ x. x == 43) b bs is
first_sign (b ∷ bs) (suc n) low h is =
    slice_split-cons_no (λ x. x == 43) b bs (none_is (b == 43) (h 0 (omega arith)))
    ∙ ap (onto_first b) (first_sign bs n (omega (arith, low)) (behind_first n b bs h) is)

pub one_member : (text : List ℕ) → IsFirstByte (is_byte 43) text None → plus_members text ≡ text ∷ []
one_member text h = no_sign text (λ k low is. h k (omega arith) low is)

rest_is : (text : List ℕ) (n : ℕ) → n < length text
    → take (length text - (n + 1)) (drop (n + 1) text) ≡ drop (suc n) text
rest_is text n low =
    let long = length-drop (n + 1) text in
    let next : n + 1 ≡ suc n = omega arith in
    take_all (length text - (n + 1)) (drop (n + 1) text) (omega (arith, long)) ∙ ap (λ m. drop m text) next

pub first_member : (text : List ℕ) (n : ℕ) → IsFirstByte (is_byte 43) text (Some n)
    → plus_members text ≡ take n text ∷ plus_members (take (length text - (n + 1)) (drop (n + 1) text))
first_member text n h =
    first_sign text n h.0.high (λ k low is. h.0.before k (omega arith) low is) h.1
    ∙ ap (λ l. take n text ∷ plus_members l) (sym (rest_is text n h.0.high))
