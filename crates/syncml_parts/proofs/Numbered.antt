-- Members numbered one by one.
use Rattle.std.proofs.Common.{◌≡◌, ◌<◌, ◌≤◌, ◌+◌, ◌^◌, ℕ, suc, List, [], ◌∷◌, ◌++◌, length, take, drop, Option, Some}
use Rattle.std.proofs.Common.{None, slice_get, slice_set, get_or, inl, inr, ◌⊎◌, refl, sym, ap, ◌∙◌, append_assoc}
use Rattle.std.proofs.Common.{arith}
use Rattle.std.proofs.lemmas.List.{drop-set, drop-drop, drop_all, take_all, nil_from_length, append-nil}
use Rattle.std.proofs.lemmas.Option.{slice_get_within, get_or_from_slice_get, slice_get_cases}
use Rattle.std.proofs.Math.Seq.{take-add, drop-cons}
use Rattle.syncml_types.specs.declared.command.Member.{Member}
use Rattle.syncml_types.specs.declared.command.SeqMember.{SeqMember}
use Rattle.syncml_parts.specs.Numbering.{with_number, numbered_members, numbered_seq_member, ids_in_seq_member}
use Rattle.syncml_parts.specs.Numbering.{numbered_seq_members, ids_in_seq_members, first_numbered, first_seq_numbered}

next_rest : {A : Type 0} (at : ℕ) (xs : List A) → drop (at + 1) xs ≡ drop 1 (drop at xs)
next_rest at xs = sym (drop-drop 1 at xs)

next_front : {A : Type 0} (at : ℕ) (xs : List A) → take (at + 1) xs ≡ take at xs ++ take 1 (drop at xs)
next_front at xs = take-add at 1 xs

step_at : (n : ℕ) (front rest : List Member)
    → (front ++ take 1 (first_numbered n rest)) ++ numbered_members (n + 1) (drop 1 (first_numbered n rest))
    ≡ front ++ numbered_members n rest
unfolding numbered_members
step_at n front [] = append_assoc front [] []
step_at n front (m ∷ ms) = append_assoc front (with_number n m ∷ []) (numbered_members (n + 1) ms)

pub step : (at n : ℕ) (old new : List Member) → take at new ≡ take at old → drop at new ≡ first_numbered n (drop at old)
    → take (at + 1) new ++ numbered_members (n + 1) (drop (at + 1) new)
    ≡ take at old ++ numbered_members n (drop at old)
step at n old new front rest =
    rw (next_front at new, next_rest at new, front, rest) (step_at n (take at old) (drop at old))

step_seq_at : (n : ℕ) (front rest : List SeqMember) (count : ℕ)
    → ids_in_seq_members rest ≡ count + ids_in_seq_members (drop 1 rest)
    → (front ++ take 1 (first_seq_numbered n rest))
    ++ numbered_seq_members (n + count) (drop 1 (first_seq_numbered n rest)) ≡ front ++ numbered_seq_members n rest
unfolding numbered_seq_members ids_in_seq_members
step_seq_at n front [] count h = append_assoc front [] []
step_seq_at n front (m ∷ ms) count h =
    let same : count ≡ ids_in_seq_member m = omega (arith, h) in
    rw same (append_assoc front (numbered_seq_member n m ∷ []) (numbered_seq_members (n + ids_in_seq_member m) ms))

pub step_seq : (at n count : ℕ) (old new : List SeqMember) → take at new ≡ take at old
    → drop at new ≡ first_seq_numbered n (drop at old)
    → ids_in_seq_members (drop at old) ≡ count + ids_in_seq_members (drop (at + 1) old)
    → take (at + 1) new ++ numbered_seq_members (n + count) (drop (at + 1) new)
    ≡ take at old ++ numbered_seq_members n (drop at old)
step_seq at n count old new front rest h =
    rw (next_front at new, next_rest at new, front, rest)
    (step_seq_at n (take at old) (drop at old) count (h ∙ ap (λ l. count + ids_in_seq_members l) (next_rest at old)))

-- ---- one of them is written

within_next : (at : ℕ) → suc at ≡ at + 1
within_next at = omega arith

drop_get : {A : Type 0} (xs : List A) (at : ℕ) (x : A) → slice_get xs at ≡ Some x → drop at xs ≡ x ∷ drop (at + 1) xs
drop_get xs at x h =
    drop-cons xs at x (slice_get_within xs at x h)
    ∙ ap (λ y. y ∷ drop (suc at) xs) (get_or_from_slice_get xs at x x h)
    ∙ ap (λ n. x ∷ drop n xs) (within_next at)

none_where : {A : Type 0} (xs : List A) (at : ℕ) → slice_get xs at ≡ None
    → ((x : A) × (at < length xs) × (slice_get xs at ≡ Some x) × (get_or xs at x ≡ x))
    ⊎ ((length xs ≤ at) × (slice_get xs at ≡ None)) → length xs ≤ at
none_where xs at h (inl found) = absurd (let some = found.2 in cc)
none_where xs at h (inr past) = past.0

slice_get_none : {A : Type 0} (xs : List A) (at : ℕ) → slice_get xs at ≡ None → length xs ≤ at
slice_get_none xs at h = none_where xs at h (slice_get_cases xs at).1

drop_none : {A : Type 0} (xs : List A) (at : ℕ) → slice_get xs at ≡ None → drop at xs ≡ []
drop_none xs at h = drop_all at xs (slice_get_none xs at h)

written : {A : Type 0} (xs : List A) (at : ℕ) (x y : A) → slice_get xs at ≡ Some x
    → drop at (slice_set xs at y) ≡ y ∷ drop (at + 1) xs
written xs at x y h = drop-set xs at y (slice_get_within xs at x h)

pub set_rest : (n at : ℕ) (xs : List Member) (x y : Member) → slice_get xs at ≡ Some x → y ≡ with_number n x
    → drop at (slice_set xs at y) ≡ first_numbered n (drop at xs)
set_rest n at xs x y h e =
    written xs at x y h ∙ ap (λ z. z ∷ drop (at + 1) xs) e ∙ ap (first_numbered n) (sym (drop_get xs at x h))

pub past_rest : (n at : ℕ) (xs : List Member) → slice_get xs at ≡ None → drop at xs ≡ first_numbered n (drop at xs)
past_rest n at xs h = let none = drop_none xs at h in none ∙ ap (first_numbered n) (sym none)

pub set_seq_rest : (n at : ℕ) (xs : List SeqMember) (x y : SeqMember) → slice_get xs at ≡ Some x
    → y ≡ numbered_seq_member n x
    → drop at (slice_set xs at y) ≡ first_seq_numbered n (drop at xs)
set_seq_rest n at xs x y h e =
    written xs at x y h ∙ ap (λ z. z ∷ drop (at + 1) xs) e ∙ ap (first_seq_numbered n) (sym (drop_get xs at x h))

pub past_seq_rest : (n at : ℕ) (xs : List SeqMember) → slice_get xs at ≡ None
    → drop at xs ≡ first_seq_numbered n (drop at xs)
past_seq_rest n at xs h = let none = drop_none xs at h in none ∙ ap (first_seq_numbered n) (sym none)

pub ids_at : (xs : List SeqMember) (at : ℕ) (x : SeqMember) → slice_get xs at ≡ Some x
    → ids_in_seq_members (drop at xs) ≡ ids_in_seq_member x + ids_in_seq_members (drop (at + 1) xs)
unfolding ids_in_seq_members
ids_at xs at x h = ap ids_in_seq_members (drop_get xs at x h)

pub ids_past : (xs : List SeqMember) (at : ℕ) → slice_get xs at ≡ None
    → ids_in_seq_members (drop at xs) ≡ 0 + ids_in_seq_members (drop (at + 1) xs)
unfolding ids_in_seq_members
ids_past xs at h =
    let none = drop_none xs at h in
    rw (none, next_rest at xs, none) refl

pub room_at : (first : ℕ) (xs : List SeqMember) (at : ℕ) (x : SeqMember) → slice_get xs at ≡ Some x
    → first + ids_in_seq_members (drop at xs) < 2 ^ 32 → first + ids_in_seq_member x < 2 ^ 32
room_at first xs at x h room = let ids = ids_at xs at x h in omega (arith, ids, room)

pub all_numbered : (n at : ℕ) (xs : List Member) (want : List Member) → length xs ≤ at
    → take at xs ++ numbered_members n (drop at xs) ≡ want → xs ≡ want
unfolding numbered_members
all_numbered n at xs want h e =
    sym (append-nil xs) ∙ ap (λ l. l ++ []) (sym (take_all at xs h))
    ∙ ap (λ l. take at xs ++ numbered_members n l) (sym (drop_all at xs h)) ∙ e

pub all_seq_numbered : (n at : ℕ) (xs : List SeqMember) (want : List SeqMember) → length xs ≤ at
    → take at xs ++ numbered_seq_members n (drop at xs) ≡ want → xs ≡ want
unfolding numbered_seq_members
all_seq_numbered n at xs want h e =
    sym (append-nil xs) ∙ ap (λ l. l ++ []) (sym (take_all at xs h))
    ∙ ap (λ l. take at xs ++ numbered_seq_members n l) (sym (drop_all at xs h)) ∙ e

pub ids_done : (id at : ℕ) (xs : List SeqMember) (want : ℕ) → length xs ≤ at
    → id + ids_in_seq_members (drop at xs) ≡ want → id ≡ want
unfolding ids_in_seq_members
ids_done id at xs want h e = let none = ap ids_in_seq_members (drop_all at xs h) in omega (arith, none, e)

behind_first : (n : ℕ) (xs : List SeqMember) → drop 1 (first_seq_numbered n xs) ≡ drop 1 xs
behind_first n [] = refl
behind_first n (m ∷ ms) = refl

pub ids_next : (id count at : ℕ) (old new : List SeqMember) (want : ℕ)
    → drop at new ≡ first_seq_numbered id (drop at old)
    → ids_in_seq_members (drop at old) ≡ count + ids_in_seq_members (drop (at + 1) old)
    → id + ids_in_seq_members (drop at old) ≡ want → (id + count) + ids_in_seq_members (drop (at + 1) new) ≡ want
ids_next id count at old new want rest h e =
    let same = next_rest at new ∙ ap (drop 1) rest ∙ behind_first id (drop at old) ∙ sym (next_rest at old) in
    let ids = ap ids_in_seq_members same in
    omega (arith, ids, h, e)
