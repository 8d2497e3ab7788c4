-- What stands between the signs of a text, part by part.
use Rattle.std.proofs.Common.{◌≡◌, ◌<◌, ◌≤◌, ◌+◌, ◌==◌, ℕ, List, [], ◌∷◌, length, drop, get_or, arith, refl, ap, sym}
use Rattle.std.proofs.Common.{◌∙◌, subst, Bool, true, false, cond, Result, Ok, Err}
use Rattle.std.specs.Prelude.{IsOk}
use Rattle.std.specs.List.{slice_split, onto_first, sum_by}
use Rattle.std.proofs.lemmas.List.{at_drop_more, at_drop_all}
use Rattle.std.proofs.lemmas.List.Sums.{sum_by-cons, sum_by-drop_more}
use Rattle.dm_acl.specs.declared.values.AclError.{AclError}
use Rattle.dm_acl.specs.declared.values.AclError.TheVariants as error
use Rattle.dm_acl.specs.declared.values.Entries.{Entries}
use Rattle.dm_acl.specs.Reading.{parts_in, after_part, after_parts, go_on, Answers, Leaves}

-- how many bytes parts take, each with a sign behind it
abbrev pub room : List (List ℕ) → ℕ
room parts = sum_by (λ (part : List ℕ). length part + 1) parts

pub room-cons : (part : List ℕ) (parts : List (List ℕ)) → room (part ∷ parts) ≡ length part + 1 + room parts
room-cons part parts = sum_by-cons (λ (p : List ℕ). length p + 1) part parts

room-first : (x : ℕ) (parts : List (List ℕ)) → 0 < length parts → room (onto_first x parts) ≡ room parts + 1
room-first x [] h = absurd (omega arith)
room-first x (part ∷ parts) h =
    let a = room-cons (x ∷ part) parts in
    let b = room-cons part parts in
    omega (arith, a, b)

some-first : (x : ℕ) (parts : List (List ℕ)) → 0 < length (onto_first x parts)
some-first x [] = omega arith
some-first x (part ∷ parts) = omega arith

some-by : (t : Bool) (b : ℕ) (parts : List (List ℕ)) → 0 < length (cond t ([] ∷ parts) (onto_first b parts))
some-by true b parts = omega arith
some-by false b parts = some-first b parts

-- there is a part at least
pub some-parts : (c : ℕ) (text : List ℕ) → 0 < length (slice_split (λ b. b == c) text)
some-parts c [] = omega arith
some-parts c (b ∷ bs) = some-by (b == c) b (slice_split (λ b. b == c) bs)

room-by : (t : Bool) (b : ℕ) (parts : List (List ℕ)) → 0 < length parts
    → room (cond t ([] ∷ parts) (onto_first b parts)) ≡ room parts + 1
room-by true b parts h =
    let a = room-cons [] parts in
    omega (arith, a)
room-by false b parts h = room-first b parts h

pub room-parts : (text : List ℕ) → room (parts_in text) ≡ length text + 1
room-parts [] = refl
room-parts (b ∷ bs) =
    let h = room-by (b == 38) b (parts_in bs) (some-parts 38 bs) in
    let e = room-parts bs in
    omega (arith, h, e)

-- ---- a step

took : (acl new : Entries) (at : ℕ) (u : Unit {0}) (part : List ℕ) (parts : List (List ℕ))
    → Leaves (Ok u) new (after_part acl at part)
    → after_parts acl at (part ∷ parts) ≡ after_parts new (at + (length part + 1)) parts
took acl new at u part parts h = ap (λ r. go_on r (λ next. after_parts next (at + (length part + 1)) parts)) h

stopped : (bad : ℕ) (acl : Entries) (at : ℕ) (part : List ℕ) (parts : List (List ℕ))
    → after_part acl at part ≡ Err (error.Malformed bad)
    → after_parts acl at (part ∷ parts) ≡ Err (error.Malformed bad)
stopped bad acl at part parts h = ap (λ r. go_on r (λ next. after_parts next (at + (length part + 1)) parts)) h

next_is : (parts : List (List ℕ)) (n : ℕ) (part : List ℕ) (acl : Entries) (at : ℕ)
    → (n < length parts) × (part ≡ get_or parts n part)
    → after_parts acl at (drop n parts) ≡ after_parts acl at (part ∷ drop (n + 1) parts)
next_is parts n part acl at turn =
    at_drop_more (after_parts acl at) parts n part turn.0
    ∙ ap (λ p. after_parts acl at (p ∷ drop (n + 1) parts)) (sym turn.1)

pub kept_more : (parts : List (List ℕ)) (n m : ℕ) (part : List ℕ) (acl new : Entries) (at : ℕ) (u : Unit {0})
    (whole : Result Entries AclError)
    → m ≡ n + 1 → (n < length parts) × (part ≡ get_or parts n part) → Leaves (Ok u) new (after_part acl at part)
    → after_parts acl at (drop n parts) ≡ whole → after_parts new (at + (length part + 1)) (drop m parts) ≡ whole
kept_more parts n m part acl new at u whole is turn h kept =
    ap (λ k. after_parts new (at + (length part + 1)) (drop k parts)) is
    ∙ sym (took acl new at u part (drop (n + 1) parts) h)
    ∙ sym (next_is parts n part acl at turn)
    ∙ kept

pub fault_at : (parts : List (List ℕ)) (n : ℕ) (part : List ℕ) (bad : ℕ) (acl : Entries) (at : ℕ)
    (whole : Result Entries AclError)
    → (n < length parts) × (part ≡ get_or parts n part) → after_part acl at part ≡ Err (error.Malformed bad)
    → after_parts acl at (drop n parts) ≡ whole → whole ≡ Err (error.Malformed bad)
fault_at parts n part bad acl at whole turn h kept =
    sym kept ∙ next_is parts n part acl at turn ∙ stopped bad acl at part (drop (n + 1) parts) h

pub stopped_at : (parts : List (List ℕ)) (n : ℕ) (part : List ℕ) (e : AclError) (acl new : Entries) (at : ℕ)
    (whole : Result Entries AclError)
    → (n < length parts) × (part ≡ get_or parts n part) → Leaves (Err e) new (after_part acl at part)
    → after_parts acl at (drop n parts) ≡ whole → IsOk whole → Answers {T = Entries} (Err e) whole
stopped_at parts n part (error.Malformed bad) acl new at whole turn h kept good =
    fault_at parts n part bad acl at whole turn h kept
stopped_at parts n part error.Memory acl new at whole turn h kept good = good

pub room_more : (parts : List (List ℕ)) (n m : ℕ) (part : List ℕ) (at limit : ℕ)
    → m ≡ n + 1 → (n < length parts) × (part ≡ get_or parts n part) → at + room (drop n parts) ≤ limit
    → at + (length part + 1) + room (drop m parts) ≤ limit
room_more parts n m part at limit is turn h =
    let e = sum_by-drop_more (λ (p : List ℕ). length p + 1) parts n part turn.0 in
    let l : length part ≡ length (get_or parts n part) = ap length turn.1 in
    let s : room (drop m parts) ≡ room (drop (n + 1) parts) = ap (λ k. room (drop k parts)) is in
    omega (arith, e, l, s)

pub kept_all : (parts : List (List ℕ)) (n : ℕ) (acl : Entries) (at : ℕ) (whole : Result Entries AclError)
    → n ≡ length parts → after_parts acl at (drop n parts) ≡ whole → whole ≡ Ok acl
kept_all parts n acl at whole is kept = sym kept ∙ at_drop_all (after_parts acl at) parts n (omega arith)

pub good_all : (parts : List (List ℕ)) (n : ℕ) (acl : Entries) (at : ℕ) (whole : Result Entries AclError)
    → n ≡ length parts → after_parts acl at (drop n parts) ≡ whole → IsOk whole
good_all parts n acl at whole is kept = subst IsOk (sym (kept_all parts n acl at whole is kept)) refl
