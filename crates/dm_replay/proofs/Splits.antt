-- Bytes as lines, and the input within the bytes that a run looks at.
use Rattle.std.proofs.Common.{suc, ◌≡◌, ◌<◌, ◌≤◌, ◌+◌, ◌==◌, ℕ, Bool, true, false, inl, inr, List, [], ◌∷◌, ◌++◌, refl}
use Rattle.std.proofs.Common.{sym, ap, ◌∙◌, length, take, arith, length-append, append-nil, if◌then◌else◌, nat_lt}
use Rattle.std.proofs.lemmas.Bool.{ne_eqb, cases_lt}
use Rattle.std.proofs.lemmas.List.{take_all}
use Rattle.std.proofs.Math.Seq.{take-append-add}
use Rattle.dm_base.specs.Lines.{IsFeedless}
use Rattle.dm_replay.specs.Input.{Input, Split, split, with_byte, input_of}
use Rattle.dm_replay.specs.From.{with_front}

pub not_lt : (a b : ℕ) → b ≤ a → nat_lt a b ≡ false
not_lt a b h = grind arith

pub is_lt : (a b : ℕ) → a < b → nat_lt a b ≡ true
is_lt a b h = grind arith

-- ---- splitting

-- a piece in front of the first line
abbrev pub with_line : List ℕ → List (List ℕ) → List ℕ → Split
with_line piece [] tail = record { lines = []; tail = piece ++ tail }
with_line piece (line ∷ lines) tail = record { lines = (piece ++ line) ∷ lines; tail = tail }

feedless_rest : (b : ℕ) (bs : List ℕ) → IsFeedless (b ∷ bs) → IsFeedless bs
feedless_rest b bs h k below is = h (suc k) (omega (arith, below)) is

with_byte-line : (b : ℕ) (piece : List ℕ) (lines : List (List ℕ)) (tail : List ℕ)
    → with_byte b (with_line piece lines tail).lines (with_line piece lines tail).tail
    ≡ with_line (b ∷ piece) lines tail
with_byte-line b piece [] tail = refl
with_byte-line b piece (line ∷ lines) tail = refl

with_line-nil : (lines : List (List ℕ)) (tail : List ℕ)
    → with_line [] lines tail ≡ record { lines = lines; tail = tail }
with_line-nil [] tail = refl
with_line-nil (line ∷ lines) tail = refl

pub split_lead : (piece rest : List ℕ) → IsFeedless piece
    → split (piece ++ rest) ≡ with_line piece (split rest).lines (split rest).tail
split_lead [] rest h = sym (with_line-nil (split rest).lines (split rest).tail)
split_lead (b ∷ bs) rest h =
    let no : (b == 10) ≡ false = ne_eqb b 10 (h 0 (omega arith)) in
    let s = split (bs ++ rest) in
    ap (λ c. if c then record { lines = [] ∷ s.lines; tail = s.tail } else with_byte b s.lines s.tail) no
    ∙ ap (λ (t : Split). with_byte b t.lines t.tail) (split_lead bs rest (feedless_rest b bs h))
    ∙ with_byte-line b bs (split rest).lines (split rest).tail

pub split_line : (line rest : List ℕ) → IsFeedless line
    → split (line ++ 10 ∷ rest) ≡ record { lines = line ∷ (split rest).lines; tail = (split rest).tail }
split_line line rest h =
    split_lead line (10 ∷ rest) h ∙ ap (λ l. record { lines = l ∷ (split rest).lines; tail = (split rest).tail })
    (append-nil line)

pub split_tail : (tail : List ℕ) → IsFeedless tail → split tail ≡ record { lines = []; tail = tail }
split_tail tail h =
    ap split (sym (append-nil tail)) ∙ split_lead tail [] h
    ∙ ap (λ l. record { lines = []; tail = l }) (append-nil tail)

-- ---- the input within the bytes that are looked at

input_by : (r : ℕ) (xs ys : List ℕ) (s : Split) (more : Bool) → take r xs ≡ ys → split ys ≡ s
    → nat_lt r (length xs) ≡ more
    → input_of r xs ≡ record { lines = s.lines; tail = s.tail; more = more }
input_by r xs ys s more front is comes =
    ap (λ (t : Split). record { lines = t.lines; tail = t.tail; more = nat_lt r (length xs) }) (ap split front ∙ is)
    ∙ ap (λ m. record { lines = s.lines; tail = s.tail; more = m }) comes

take_line : (r r' : ℕ) (line ys : List ℕ) → r' + (length line + 1) ≡ r
    → take r (line ++ 10 ∷ ys) ≡ line ++ 10 ∷ take r' ys
take_line r r' line ys e =
    let is : r ≡ length line + suc r' = omega (arith, e) in
    ap (λ n. take n (line ++ 10 ∷ ys)) is ∙ take-append-add line (10 ∷ ys) (suc r')

lt_shift : (k a b c d : ℕ) → a ≡ c + k → b ≡ d + k → nat_lt a b ≡ nat_lt c d
lt_shift k a b c d p q =
    elim (cases_lt c d) [
      | inl less ↦ is_lt a b (omega (arith, p, q, less)) ∙ sym (is_lt c d less)
      | inr more ↦ not_lt a b (omega (arith, p, q, more)) ∙ sym (not_lt c d more)
    ]

pub input_line : (r r' : ℕ) (line ys : List ℕ) → IsFeedless line → r' + (length line + 1) ≡ r
    → input_of r (line ++ 10 ∷ ys) ≡ with_front line (input_of r' ys)
input_line r r' line ys h e =
    let counted = length-append line (10 ∷ ys) in
    input_by r (line ++ 10 ∷ ys) (line ++ 10 ∷ take r' ys) _ (nat_lt r' (length ys)) (take_line r r' line ys e)
    (split_line line (take r' ys) h) (lt_shift (length line + 1) _ _ _ _ (sym e) (omega (arith, counted)))

pub input_cut : (r : ℕ) (xs : List ℕ) → IsFeedless xs → length xs ≤ r
    → input_of r xs ≡ record { lines = []; tail = xs; more = false }
input_cut r xs h within =
    input_by r xs xs _ false (take_all r xs within) (split_tail xs h) (not_lt r (length xs) within)

pub input_past : (r : ℕ) (xs : List ℕ) → IsFeedless (take r xs) → r < length xs
    → input_of r xs ≡ record { lines = []; tail = take r xs; more = true }
input_past r xs h past = input_by r xs (take r xs) _ true refl (split_tail (take r xs) h) (is_lt r (length xs) past)

-- bytes that begin with the front of a line
abbrev pub input_led : List ℕ → List (List ℕ) → List ℕ → Bool → Input
input_led line lines tail more =
    record { lines = (with_line line lines tail).lines; tail = (with_line line lines tail).tail; more = more }

take_lead : (r k : ℕ) (line rest : List ℕ) → length line + k ≡ r → take r (line ++ rest) ≡ line ++ take k rest
take_lead r k line rest e = ap (λ n. take n (line ++ rest)) (sym e) ∙ take-append-add line rest k

pub input_long : (r k : ℕ) (line rest : List ℕ) → IsFeedless line → length line + k ≡ r
    → input_of r (line ++ rest) ≡ input_led line (split (take k rest)).lines (split (take k rest)).tail
    (nat_lt r (length (line ++ rest)))
input_long r k line rest h e =
    input_by r (line ++ rest) (line ++ take k rest) _ (nat_lt r (length (line ++ rest))) (take_lead r k line rest e)
    (split_lead line (take k rest) h) refl
