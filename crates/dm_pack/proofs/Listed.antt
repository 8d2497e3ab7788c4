-- Commands that stand in a list, all of which a message takes.
use Rattle.std.proofs.Common.{◌≡◌, ◌≤◌, ◌<◌, ◌+◌, ◌-◌, ◌^◌, ℕ, suc, Bool, true, List, [], ◌∷◌, ◌++◌, length, map, take}
use Rattle.std.proofs.Common.{drop, Some, slice_get, slice_set, refl, sym, ap, ◌∙◌, append_assoc, arith}
use Rattle.std.proofs.Common.{min}
use Rattle.std.proofs.lemmas.Bool.{le-leb}
use Rattle.std.proofs.lemmas.List.{append-nil, drop-drop, drop-set, take-set, drop_all, take_all, length-map}
use Rattle.std.proofs.lemmas.List.{map-append, drop-map}
use Rattle.std.proofs.lemmas.Option.{slice_get_within, get_or_from_slice_get}
use Rattle.std.proofs.Math.Seq.{take-add, drop-cons}
use Rattle.wbxml_tokens.specs.Spelling.{page_behind}
use Rattle.syncml_types.specs.declared.values.Header.{Header}
use Rattle.syncml_types.specs.declared.command.Command.{Command}
use Rattle.syncml_types.specs.Canonical.{command_tokens}
use Rattle.syncml_types.specs.Lengths.{up_to_most, spelled_length}
use Rattle.syncml_parts.specs.Numbering.{with_numbers, ids_in}
use Rattle.dm_pack.specs.declared.place.Place.{Place}
use Rattle.dm_pack.specs.declared.filled.Tail.{Tail}
use Rattle.dm_pack.specs.Entries.{Entry, whole_entry}
use Rattle.dm_pack.specs.Filling.{Filling, numbered, commands_of, taken, tail_of, tail_commands, fill}
use Rattle.dm_pack.specs.Measures.{ids_of, place_past, fits_at, within, place_of, end_length, cut_at}
use Rattle.dm_pack.proofs.Measuring.{place_at, same_place}
use Rattle.dm_pack.proofs.Numbers.{numbered_append}
use Rattle.dm_pack.proofs.Packed.{Packs, packed}
use Rattle.dm_pack.proofs.Taking.{HasTaken, commands_next, one_more, all_taken}

-- ---- measured one by one

is_within : (room : ℕ) (p : Place) → fits_at room p ≡ true → within room p ≡ Some p
is_within room p h = rw h refl

pub one_behind : (p : Place) (c : Command) (bytes page next used end least room : ℕ)
    → bytes ≡ spelled_length 0 p.page (command_tokens (with_numbers p.next c))
    → page ≡ page_behind p.page (command_tokens (with_numbers p.next c)) → next ≡ p.next + ids_in c
    → used ≡ min (p.used + bytes) (2 ^ 64 - 1) → end ≡ up_to_most (end_length page next)
    → least ≡ min (used + end) (2 ^ 64 - 1) → room ≤ 65536 → least ≤ room
    → Some (place_at used page next) ≡ within room (place_past p c)
one_behind p c bytes page next used end least room b g n u e l most low =
    let same : place_at used page next ≡ place_past p c =
    same_place _ _ _ _ _ _ (omega (arith, b, u, l, most, low)) g n in
    let fits = le-leb (used + end_length page next) room (omega (arith, e, l, most, low)) in
    sym (is_within room (place_at used page next) fits) ∙ ap (within room) same

pub fresh_commands : (cs : List Command) → commands_of (map whole_entry cs) ≡ cs
fresh_commands [] = refl
fresh_commands (c ∷ cs) = ap (λ l. c ∷ l) (fresh_commands cs)

pub fresh_at : (cs : List Command) (at : ℕ) (c : Command) → drop at cs ≡ c ∷ drop (at + 1) cs
    → drop at (map whole_entry cs) ≡ whole_entry c ∷ drop (at + 1) (map whole_entry cs)
fresh_at cs at c is =
    drop-map whole_entry at cs ∙ ap (map whole_entry) is
    ∙ ap (λ l. whole_entry c ∷ l) (sym (drop-map whole_entry (at + 1) cs))

-- so many commands of a list fit
abbrev pub HasListed : Header → ℕ → List Command → ℕ → Place → Type 0
HasListed h room cs at place =
    HasTaken h room (map whole_entry cs) at place (numbered 1 (commands_of (take at (map whole_entry cs))))

pub one_listed : (h : Header) (room at : ℕ) (cs : List Command) (c : Command) (place next : Place)
    → HasListed h room cs at place → room ≤ 65536 → drop at cs ≡ c ∷ drop (at + 1) cs
    → Some next ≡ within room (place_past place c) → HasListed h room cs (at + 1) next
one_listed h room at cs c place next t most is some =
    let es = map whole_entry cs in
    let first = fresh_at cs at c is in
    let before = commands_of (take at es) in
    one_more h room at es (whole_entry c) place next _ _ t most first some
    (ap (numbered 1) (commands_next es at (whole_entry c) (drop (at + 1) es) first)
    ∙ numbered_append 1 before (c ∷ [])
    ∙ ap (λ (p : Place). numbered 1 before ++ with_numbers p.next c ∷ []) (sym t.place_is))

long_fresh : (cs : List Command) → length (map whole_entry cs) ≡ length cs
long_fresh cs = length-map cs whole_entry

pub all_listed : (h : Header) (room at : ℕ) (cs : List Command) (place : Place) → HasListed h room cs at place
    → length cs ≤ at → at ≡ taken h room [] (map whole_entry cs)
all_listed h room at cs place t whole =
    let long = long_fresh cs in
    all_taken h room at (map whole_entry cs) place _ t (omega (arith, whole, long))

pub listed_place : (h : Header) (room at : ℕ) (cs : List Command) (place : Place) → HasListed h room cs at place
    → length cs ≤ at → place ≡ place_of h cs
listed_place h room at cs place t whole =
    let long = long_fresh cs in
    t.place_is
    ∙ ap (λ l. place_of h (commands_of l)) (take_all at (map whole_entry cs) (omega (arith, whole, long)))
    ∙ ap (place_of h) (fresh_commands cs)

-- ---- numbered in place

next_rest : {A : Type 0} (at : ℕ) (xs : List A) → drop (at + 1) xs ≡ drop 1 (drop at xs)
next_rest at xs = sym (drop-drop 1 at xs)

within_next : (at : ℕ) → suc at ≡ at + 1
within_next at = omega arith

drop_get : {A : Type 0} (xs : List A) (at : ℕ) (x : A) → slice_get xs at ≡ Some x → drop at xs ≡ x ∷ drop (at + 1) xs
drop_get xs at x h =
    drop-cons xs at x (slice_get_within xs at x h)
    ∙ ap (λ y. y ∷ drop (suc at) xs) (get_or_from_slice_get xs at x x h)
    ∙ ap (λ n. x ∷ drop n xs) (within_next at)

written : {A : Type 0} (xs : List A) (at : ℕ) (x y : A) → slice_get xs at ≡ Some x
    → drop at (slice_set xs at y) ≡ y ∷ drop (at + 1) xs
written xs at x y h = drop-set xs at y (slice_get_within xs at x h)

behind_first : {A : Type 0} (xs : List A) (x : A) → drop 1 (x ∷ xs) ≡ xs
behind_first [] x = refl
behind_first (y ∷ xs) x = refl

rest_written : {A : Type 0} (xs : List A) (at : ℕ) (x y : A) → slice_get xs at ≡ Some x
    → drop (at + 1) (slice_set xs at y) ≡ drop (at + 1) xs
rest_written xs at x y h =
    next_rest at (slice_set xs at y) ∙ ap (drop 1) (written xs at x y h) ∙ behind_first (drop (at + 1) xs) y

front_written : {A : Type 0} (xs : List A) (at : ℕ) (x y : A) → slice_get xs at ≡ Some x
    → take (at + 1) (slice_set xs at y) ≡ take at xs ++ y ∷ []
front_written xs at x y h =
    take-add at 1 (slice_set xs at y)
    ∙ ap (λ l. l ++ take 1 (drop at (slice_set xs at y))) (take-set xs at y)
    ∙ ap (λ l. take at xs ++ take 1 l) (written xs at x y h)

pub numbers_set : (first at next : ℕ) (xs : List Command) (x y : Command) → slice_get xs at ≡ Some x
    → y ≡ with_numbers first x → next ≡ first + ids_in x
    → take (at + 1) (slice_set xs at y) ++ numbered next (drop (at + 1) (slice_set xs at y))
    ≡ take at xs ++ numbered first (drop at xs)
numbers_set first at next xs x y h is n =
    ap (λ l. l ++ numbered next (drop (at + 1) (slice_set xs at y))) (front_written xs at x y h)
    ∙ ap (λ l. (take at xs ++ y ∷ []) ++ numbered next l) (rest_written xs at x y h)
    ∙ append_assoc (take at xs) (y ∷ []) (numbered next (drop (at + 1) xs))
    ∙ ap (λ z. take at xs ++ z ∷ numbered next (drop (at + 1) xs)) is
    ∙ ap (λ m. take at xs ++ with_numbers first x ∷ numbered m (drop (at + 1) xs)) n
    ∙ ap (λ l. take at xs ++ numbered first l) (sym (drop_get xs at x h))

pub ids_set : (first at next : ℕ) (xs : List Command) (x y : Command) → slice_get xs at ≡ Some x
    → next ≡ first + ids_in x
    → next + ids_of (drop (at + 1) (slice_set xs at y)) ≡ first + ids_of (drop at xs)
ids_set first at next xs x y h n =
    let rest = ap ids_of (rest_written xs at x y h) in
    let here = ap ids_of (drop_get xs at x h) in
    omega (arith, rest, here, n)

pub room_for : (first at : ℕ) (xs : List Command) (x : Command) → slice_get xs at ≡ Some x
    → first + ids_of (drop at xs) < 2 ^ 32 → first + ids_in x < 2 ^ 32
room_for first at xs x h room = let here = ap ids_of (drop_get xs at x h) in omega (arith, here, room)

pub all_numbered : (n at : ℕ) (xs want : List Command) → length xs ≤ at
    → take at xs ++ numbered n (drop at xs) ≡ want → xs ≡ want
all_numbered n at xs want h e =
    sym (append-nil xs) ∙ ap (λ l. l ++ []) (sym (take_all at xs h))
    ∙ ap (λ l. take at xs ++ numbered n l) (sym (drop_all at xs h)) ∙ e

-- ---- the message

pub packs_listed : (h : Header) (cs : List Command) (room : ℕ) (heard : Bool) (place : Place) (t : Tail)
    (q : List Entry) (first body : List Command)
    → taken h room [] (map whole_entry cs) ≡ length cs → place ≡ place_of h cs → first ≡ numbered 1 cs → q ≡ []
    → t ≡ tail_of q heard → body ≡ first ++ numbered place.next (tail_commands t)
    → Packs h (map whole_entry cs) room heard (length cs) 0 place place t first first body
packs_listed h cs room heard place t q first body whole at f alone l b =
    let long = long_fresh cs in
    let all = ap commands_of (take_all (length cs) (map whole_entry cs) (omega (arith, long))) ∙ fresh_commands cs in
    let none = drop_all (length cs) (map whole_entry cs) (omega (arith, long)) in
    record {
      whole_is = sym whole;
      place_is = at ∙ ap (place_of h) (sym all);
      first_is = f ∙ ap (numbered 1) (sym all);
      cut_there = ap (cut_at place room) (sym none);
      reached_is = refl;
      more_is = sym (append-nil first);
      tail_there = l ∙ ap (λ k. tail_of k heard) (alone ∙ sym none);
      body_is = b;
    }

pub left_listed : (h : Header) (cs : List Command) (room : ℕ) (heard : Bool) (place : Place) (t : Tail)
    (q : List Entry) (first body : List Command)
    → Packs h (map whole_entry cs) room heard (length cs) 0 place place t first first body → q ≡ []
    → q ≡ (fill (map whole_entry cs) h room heard).left
left_listed h cs room heard place t q first body p alone =
    let long = long_fresh cs in
    alone ∙ sym (drop_all (length cs) (map whole_entry cs) (omega (arith, long)))
    ∙ ap (λ (f : Filling). f.left)
    (packed h (map whole_entry cs) room heard (length cs) 0 place place t first first body p)

-- ---- put into a queue

pub put_alone : (old new place_past : List Entry) → old ≡ [] → new ≡ old ++ place_past → new ≡ place_past
put_alone old new place_past none is = is ∙ ap (λ l. l ++ place_past) none

pub put_around : (front entries all : List Command) (old : List Entry) → old ≡ [] → all ≡ front ++ entries
    → map whole_entry all ≡ map whole_entry front ++ (old ++ map whole_entry entries)
put_around front entries all old none is =
    ap (map whole_entry) is ∙ map-append whole_entry front entries
    ∙ ap (λ l. map whole_entry front ++ (l ++ map whole_entry entries)) (sym none)
