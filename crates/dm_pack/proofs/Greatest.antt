-- The greatest number that passes.
use Rattle.std.proofs.Common.{◌≡◌, ℕ, zero, suc, ◌+◌, ◌-◌, ◌<◌, ◌≤◌, ◌^◌, Bool, true, false, if◌then◌else◌, List, []}
use Rattle.std.proofs.Common.{◌∷◌, length, refl, sym, ◌∙◌, ap, arith, take, min, nat_le, Some, None}
use Rattle.std.proofs.lemmas.List.{length-take}
use Rattle.std.proofs.lemmas.Bool.{leb-true, leb-false, le-leb}
use Rattle.syncml_types.specs.declared.command.Command.{Command}
use Rattle.syncml_parts.specs.Numbering.{with_numbers}
use Rattle.syncml_types.specs.Lengths.{up_to_most}
use Rattle.syncml_parts.specs.Packing.{data_length, cut_data}
use Rattle.syncml_parts.proofs.Parted.{bounds_data}
use Rattle.dm_pack.specs.declared.place.Place.{Place}
use Rattle.dm_pack.specs.Entries.{Entry, part_of, data_left}
use Rattle.syncml_types.specs.declared.values.Header.{Header}
use Rattle.dm_pack.specs.Filling.{greatest, fits_room, cut, numbered, next_part, next_rest, tail_of}
use Rattle.dm_pack.specs.declared.filled.Tail.{Tail}
use Rattle.dm_pack.specs.declared.filled.Tail.TheVariants.{Final, NextMessage, Nothing}
use Rattle.dm_pack.specs.Measures.{place_past, behind_all, behind_hollow, fits_at, end_length, data_cost, hollow_next}
use Rattle.dm_pack.specs.Measures.{marks_of, with_cost, with_marks, greatest_within, greatest_with, greatest_at, cut_at}
use Rattle.dm_pack.specs.Measures.{place_of, ids_of}
use Rattle.dm_pack.proofs.Marking.{is_marked}
use Rattle.dm_pack.proofs.Measuring.{place_at, same_place, over_false, fits_next, data_behind, cost_of}
use Rattle.dm_pack.proofs.Parts.{hollow_part, part_data}
use Rattle.dm_pack.proofs.Numbers.{numbered_append}
use Rattle.std.proofs.Common.{◌++◌, drop}
use Rattle.std.proofs.lemmas.List.{drop_all, length-drop}

-- where none between passes, it may be looked for from below
greatest_down : (passes : ℕ → Bool) (n more : ℕ) → ((k : ℕ) → n < k → k ≤ n + more → passes k ≡ false)
    → greatest passes (n + more) ≡ greatest passes n
greatest_down passes n zero none = ap (greatest passes) (omega arith)
greatest_down passes n (suc more) none =
    let step : n + suc more ≡ suc (n + more) = omega arith in
    ap (greatest passes) step
    ∙ ap (λ b. if b then suc (n + more) else greatest passes (n + more))
    (none (suc (n + more)) (omega arith) (omega arith))
    ∙ greatest_down passes n more (λ k l h. none k l (omega arith))

pub greatest_same : (p q : ℕ → Bool) (most : ℕ) → ((k : ℕ) → 0 < k → k ≤ most → p k ≡ q k)
    → greatest p most ≡ greatest q most
greatest_same p q zero e = refl
greatest_same p q (suc n) e =
    ap (λ b. if b then suc n else greatest p n) (e (suc n) (omega arith) (omega arith))
    ∙ ap (λ x. if q (suc n) then suc n else x) (greatest_same p q n (λ k a b. e k a (omega arith)))

-- more Data than the room less two does not fit
too_much : (v : List ℕ) (budget n : ℕ) → n ≤ length v → budget < n + 2 → nat_le (data_length (take n v)) budget ≡ false
too_much v budget n l h =
    let low = (bounds_data (take n v)).0 in
    let long = length-take n v in
    over_false (data_length (take n v)) budget (omega (arith, low, long, l, h))

pub from_below : (v : List ℕ) (budget n : ℕ) → n ≤ length v - 1 → (n < length v - 1 → budget < n + 3)
    → greatest (λ k. nat_le (data_length (take k v)) budget) n ≡ greatest_within v budget
unfolding greatest_within
from_below v budget n l h =
    let passes = λ (k : ℕ). nat_le (data_length (take k v)) budget in
    let down : greatest passes (n + (length v - 1 - n)) ≡ greatest passes n =
    greatest_down passes n (length v - 1 - n)
    (λ k a b. let big : budget < n + 3 = h (omega arith) in too_much v budget k (omega arith) (omega arith)) in
    sym down ∙ ap (greatest passes) (omega arith)

-- ---- a part that fits

test_by : (a b room budget : ℕ) (t : Bool) → nat_le b budget ≡ t → (b ≤ budget → a ≤ room) → (budget < b → room < a)
    → nat_le a room ≡ t
test_by a b room budget true e f g = le-leb a room (f (leb-true b budget e))
test_by a b room budget false e f g = over_false a room (g (leb-false b budget e))

same_test : (a b room budget : ℕ) → (b ≤ budget → a ≤ room) → (budget < b → room < a) → nat_le a room ≡ nat_le b budget
same_test a b room budget f g = test_by a b room budget (nat_le b budget) refl f g

budget_test : (p : Place) (v : List ℕ) (room n end used : ℕ) → end ≡ up_to_most (end_length p.page p.next)
    → used ≡ min (min (p.used + 1) (2 ^ 64 - 1) + end) (2 ^ 64 - 1) → room ≤ 65536 → 0 < n → n ≤ length v - 1
    → nat_le (data_length (take n v)) (room - used) ≡ fits_at room (with_cost (take n v) p)
budget_test p v room n end used e u most pos low =
    let long = length-take n v in
    let cost = cost_of (take n v) (omega (arith, long, pos, low)) in
    let least = (bounds_data (take n v)).0 in
    sym (same_test _ (data_length (take n v)) room (room - used)
    (λ h. omega (arith, cost, e, u, least, most, h)) (λ h. omega (arith, cost, e, u, least, most, h)))

pub budget_greatest : (p : Place) (v : List ℕ) (room end used budget : ℕ) → end ≡ up_to_most (end_length p.page p.next)
    → used ≡ min (min (p.used + 1) (2 ^ 64 - 1) + end) (2 ^ 64 - 1) → room ≤ 65536 → budget ≡ room - used
    → greatest_within v budget ≡ greatest_with p v room
unfolding greatest_within greatest_with
budget_greatest p v room end used budget e u most is =
    ap (λ b. greatest (λ n. nat_le (data_length (take n v)) b) (length v - 1)) is
    ∙ greatest_same (λ n. nat_le (data_length (take n v)) (room - used)) (λ n. fits_at room (with_cost (take n v) p))
    (length v - 1)
    (λ k a b. budget_test p v room k end used e u most a b)

-- a part is behind its Data
pub part_at : (p : Place) (e : Entry) (n : ℕ) → 0 < data_left e
    → with_cost (take n (cut_data e.command)) (place_past p (part_of e 0)) ≡ place_past p (part_of e n)
part_at p e n some =
    ap (λ v. with_cost v (place_past p (part_of e 0))) (sym (part_data e n some))
    ∙ ap (λ c. with_cost (cut_data (part_of e n)) (place_past p c)) (sym (hollow_part e n))
    ∙ data_behind p (part_of e n)

-- the entry without its Data, and with marks, is the part without Data
pub part_behind : (p q : Place) (e : Entry) → 0 < data_left e → q ≡ behind_hollow p e
    → with_marks e q ≡ place_past p (part_of e 0)
part_behind p q e some is =
    let m = is_marked p e some in
    let used = m.used in
    ap (with_marks e) is ∙ same_place _ _ _ _ _ _ (omega (arith, used)) (sym m.page) (sym m.next)

-- what is marked comes to no less
pub marks_there : (p q : Place) (e : Entry) → 0 < data_left e → q ≡ behind_hollow p e
    → marks_of e.command ≤ q.used + marks_of (part_of e 0)
marks_there p q e some is =
    let used = (is_marked p e some).used in
    let same = ap (λ (r : Place). r.used) is in
    omega (arith, used, same)

pub part_greatest : (p q : Place) (e : Entry) (v : List ℕ) (room : ℕ) → 0 < data_left e → q ≡ place_past p (part_of e 0)
    → v ≡ cut_data e.command
    → greatest_with q v room ≡ greatest_at p e room
unfolding greatest_with greatest_at
part_greatest p q e v room some is left =
    ap (λ x. greatest (λ n. fits_at room (with_cost (take n v) x)) (length v - 1)) is
    ∙ ap (λ w. greatest (λ n. fits_at room (with_cost (take n w) (place_past p (part_of e 0)))) (length w - 1)) left
    ∙ greatest_same (λ n. fits_at room (with_cost (take n (cut_data e.command)) (place_past p (part_of e 0))))
    (λ n. fits_at room (place_past p (part_of e n)))
    (data_left e - 1) (λ k a b. ap (fits_at room) (part_at p e k some))

most_by : (p : ℕ → Bool) (k : ℕ) (t : Bool) → greatest p k ≤ k → (if t then suc k else greatest p k) ≤ suc k
most_by p k true h = omega arith
most_by p k false h = omega (arith, h)

pub greatest_most : (p : ℕ → Bool) (most : ℕ) → greatest p most ≤ most
greatest_most p zero = omega arith
greatest_most p (suc k) = most_by p k (p (suc k)) (greatest_most p k)

pub part_most : (p : Place) (e : Entry) (room : ℕ) → greatest_at p e room ≤ data_left e - 1
unfolding greatest_at
part_most p e room = greatest_most (λ n. fits_at room (place_past p (part_of e n))) (data_left e - 1)

pub no_part : (p : Place) (e : Entry) (room : ℕ) → data_left e < 2 → 0 ≡ greatest_at p e room
no_part p e room h = let most = part_most p e room in omega (arith, most, h)

-- ---- what is sent of the next entry

one_pushed : (k n : ℕ) (e : Entry) (es : List Entry) → 0 < n
    → numbered k (next_part n (e ∷ es)) ≡ with_numbers k (part_of e n) ∷ []
one_pushed k zero e es h = absurd (omega (arith, h))
one_pushed k (suc n) e es h = refl

pub part_pushed : (body : List Command) (k n : ℕ) (e : Entry) → 0 < n
    → body ++ with_numbers k (part_of e n) ∷ [] ≡ body ++ numbered k (next_part n (e ∷ []))
part_pushed body k n e some = ap (λ l. body ++ l) (sym (one_pushed k n e [] some))

one_behind : (p : Place) (n : ℕ) (e : Entry) → 0 < n → behind_all p (next_part n (e ∷ [])) ≡ place_past p (part_of e n)
one_behind p zero e h = absurd (omega (arith, h))
one_behind p (suc n) e h = refl

-- where the message has come to with a part
pub part_reached : (p q : Place) (e : Entry) (n token : ℕ) → 0 < n → n ≤ data_left e - 1 → 0 < data_left e
    → q ≡ place_past p (part_of e 0)
    → token ≡ data_length (take n (cut_data e.command))
    → place_at (q.used + 1 + token) q.page q.next ≡ behind_all p (next_part n (e ∷ []))
part_reached p q e n token pos low some is long =
    let taken = length-take n (cut_data e.command) in
    let cost = cost_of (take n (cut_data e.command)) (omega (arith, taken, pos, low)) in
    same_place (q.used + 1 + token) (q.used + data_cost (take n (cut_data e.command))) q.page q.page q.next q.next
    (omega (arith, cost, long)) refl refl
    ∙ ap (with_cost (take n (cut_data e.command))) is
    ∙ part_at p e n some
    ∙ sym (one_behind p n e pos)

first_by : (k n : ℕ) (e : Entry) (es : List Entry)
    → numbered k (next_part n (e ∷ [])) ≡ numbered k (next_part n (e ∷ es))
first_by k zero e es = refl
first_by k (suc n) e es = refl

pub none_next : (p : Place) (es : List Entry) → None ≡ hollow_next p es → es ≡ []
none_next p [] h = refl
none_next p (e ∷ es) h = absurd (cc)

pub some_next : (p q : Place) (es : List Entry) → Some q ≡ hollow_next p es → 0 < length es
some_next p q [] h = absurd (cc)
some_next p q (e ∷ es) h = omega arith

pub hollow_first : (p q : Place) (e : Entry) (es xs : List Entry) → xs ≡ e ∷ es → Some q ≡ hollow_next p xs
    → q ≡ behind_hollow p e
hollow_first p q e es xs is h = let first : Some q ≡ Some (behind_hollow p e) = h ∙ ap (hollow_next p) is in cc

pub cut_is : (h : Header) (room : ℕ) (before : List Command) (next : List Entry)
    → cut h room before next ≡ cut_at (place_of h before) room next
unfolding greatest_at
cut_is h room before [] = refl
cut_is h room before (e ∷ es) =
    greatest_same (λ n. fits_room h room (before ++ part_of e n ∷ []))
    (λ n. fits_at room (place_past (place_of h before) (part_of e n))) (data_left e - 1)
    (λ k a b. fits_next h room before (part_of e k))

-- ---- the end

tail_same : (n : ℕ) (next : List Entry) (heard : Bool) → tail_of (next_rest n next) heard ≡ tail_of next heard
tail_same zero next heard = refl
tail_same (suc n) [] heard = refl
tail_same (suc n) (e ∷ es) heard = refl

pub tail_is : (n : ℕ) (next : List Entry) (heard : Bool) (t : Tail) → t ≡ tail_of next heard
    → t ≡ tail_of (next_rest n next) heard
tail_is n next heard t h = h ∙ sym (tail_same n next heard)

pub tail_done : (whole : ℕ) (es : List Entry) (heard : Bool) → length es ≤ whole
    → (if heard then Final else NextMessage) ≡ tail_of (drop whole es) heard
tail_done whole es heard h = ap (λ l. tail_of l heard) (sym (drop_all whole es h))

some_tail : (es : List Entry) (heard : Bool) → 0 < length es → Nothing ≡ tail_of es heard
some_tail [] heard h = absurd (omega (arith, h))
some_tail (e ∷ es) heard h = refl

pub tail_waits : (whole : ℕ) (es : List Entry) (heard : Bool) → whole < length es
    → Nothing ≡ tail_of (drop whole es) heard
tail_waits whole es heard h =
    some_tail (drop whole es) heard (let long = length-drop whole es in omega (arith, long, h))

-- the body is numbered through
pub whole_body : (before part tail : List Command) (j k : ℕ) → j ≡ 1 + ids_of before → k ≡ 1 + ids_of (before ++ part)
    → (numbered 1 before ++ numbered j part) ++ numbered k tail ≡ numbered 1 (before ++ part ++ tail)
whole_body before part tail j k first next =
    ap (λ m. (numbered 1 before ++ numbered m part) ++ numbered k tail) first
    ∙ ap (λ l. l ++ numbered k tail) (sym (numbered_append 1 before part))
    ∙ ap (λ m. numbered 1 (before ++ part) ++ numbered m tail) next
    ∙ sym (numbered_append 1 (before ++ part) tail)
