-- Parts of entries whose Data is kept apart.
use Rattle.std.proofs.Common.{◌≡◌, ◌<◌, ◌+◌, ◌-◌, ◌==◌, ℕ, zero, suc, Bool, true, false, not, if◌then◌else◌, List, []}
use Rattle.std.proofs.Common.{◌∷◌, length, length-drop, take, drop, Option, Some, None, option_map, option_and_then}
use Rattle.std.proofs.Common.{refl, sym, ap, ◌∙◌, arith}
use Rattle.std.proofs.lemmas.List.{drop-drop}
use Rattle.std.proofs.lemmas.Bool.{ne_eqb, eqb-true, eqb-false}
use Rattle.syncml_types.specs.declared.values.Item.{Item}
use Rattle.syncml_types.specs.declared.command.Command.{Command}
use Rattle.syncml_types.specs.declared.command.Command.TheVariants as command
use Rattle.syncml_parts.specs.Packing.{cut_item, cut_changed, cut_data, data_in, bytes_in, member_item, seq_member_item}
use Rattle.syncml_parts.specs.Packing.{member_changed, seq_member_changed, list_last, last_changed}
use Rattle.syncml_parts.specs.Pages.{with_item_value}
use Rattle.syncml_parts.specs.Numbering.{with_numbers, ids_in}
use Rattle.syncml_parts.proofs.Last.{less_one, last_next}
use Rattle.dm_pack.specs.Entries.{Entry, part_item, part_meta, part_of, rest_item, rest_of, last_only, last_alone}
use Rattle.dm_pack.specs.Entries.{with_size, data_left}
use Rattle.dm_pack.specs.Measures.{hollow_item, put_back, entry_left, marked, size_told, HasEmptyData, IsTakenApart}
use Rattle.dm_pack.proofs.Changing.{agree_at, twice, item_changed}
use Rattle.dm_pack.proofs.Numbers.{number_changed, ids_changed}
use Rattle.dm_pack.proofs.Apart.{HasData, has_data, data_apart, hollow_apart}

-- ---- the part without Data

part_first : (b : ℕ) (bs : List ℕ) (i : Item) → i.value ≡ Some []
    → part_item false 0 (with_item_value (b ∷ bs) i) ≡ marked (Some (length (b ∷ bs))) i
part_first b bs i e = ap (λ o. record i { meta = with_size (length (b ∷ bs)) i.meta; value = o; more = true }) (sym e)

part_later : (b : ℕ) (bs : List ℕ) (i : Item) → i.value ≡ Some []
    → part_item true 0 (with_item_value (b ∷ bs) i) ≡ marked None i
part_later b bs i e = ap (λ o. record i { value = o; more = true }) (sym e)

marked_part : (begun : Bool) (size : Option ℕ) (c : Command) (v : List ℕ) → HasEmptyData c → 0 < length v
    → size ≡ (if begun then None else Some (length v))
    → cut_changed (part_item begun 0) (put_back v c) ≡ cut_changed (marked size) c
marked_part begun size c [] e some is = absurd (omega (arith, some))
marked_part true size c (b ∷ bs) e some is =
    rw is (twice (part_item true 0) (with_item_value (b ∷ bs)) c
    ∙ agree_at (λ i. part_item true 0 (with_item_value (b ∷ bs) i)) (marked None) c e.item e.is
    (part_later b bs e.item e.empty))
marked_part false size c (b ∷ bs) e some is =
    rw is (twice (part_item false 0) (with_item_value (b ∷ bs)) c
    ∙ agree_at (λ i. part_item false 0 (with_item_value (b ∷ bs) i)) (marked (Some (length (b ∷ bs)))) c e.item e.is
    (part_first b bs e.item e.empty))

size_by : (sent : ℕ) (value : List ℕ)
    → size_told sent value ≡ (if not (sent == 0) then None else Some (length (drop sent value)))
size_by zero value = refl
size_by (suc sent) value = rw (ne_eqb (suc sent) 0 (λ e. omega (arith, e))) refl

some_left : (value : List ℕ) (sent : ℕ) → 0 < length (drop sent value) → 0 < length value
some_left value sent h = let long = length-drop sent value in omega (arith, long, h)

-- the command that is kept, marked, is the next part without Data
pub part_hollow : (size : Option ℕ) (c : Command) (value : List ℕ) (sent : ℕ) → IsTakenApart c value sent
    → 0 < data_left (entry_left c value sent) → size ≡ size_told sent value
    → cut_changed (marked size) c ≡ part_of (entry_left c value sent) 0
unfolding part_of
part_hollow size c value sent a some is =
    let left = ap length (data_apart c value sent a) in
    let more : 0 < length (drop sent value) = omega (arith, some, left) in
    sym (marked_part (not (sent == 0)) size c (drop sent value) (a.place (some_left value sent more)) more
    (is ∙ size_by sent value))

-- and so is a copy with CmdIDs
part_marked : (first : ℕ) (size : Option ℕ) (c : Command) (value : List ℕ) (sent : ℕ) → IsTakenApart c value sent
    → 0 < data_left (entry_left c value sent) → size ≡ size_told sent value
    → cut_changed (marked size) (with_numbers first c) ≡ with_numbers first (part_of (entry_left c value sent) 0)
part_marked first size c value sent a some is =
    sym (number_changed (marked size) first c) ∙ ap (with_numbers first) (part_hollow size c value sent a some is)

-- ---- and with it

put_item : (begun : Bool) (n : ℕ) (i : Item) (v : List ℕ) → i.value ≡ Some v
    → with_item_value (take n v) (part_item begun 0 i) ≡ part_item begun n i
put_item begun n i v e =
    ap (λ o. record i { meta = part_meta begun i; value = Some (take n (bytes_in o)); more = true }) (sym e)

part_filled : (first n : ℕ) (e : Entry) → 0 < data_left e
    → cut_changed (with_item_value (take n (cut_data e.command))) (with_numbers first (part_of e 0))
    ≡ with_numbers first (part_of e n)
unfolding part_of
part_filled first n e some =
    let d = has_data e.command some in
    sym (number_changed (with_item_value (take n (cut_data e.command))) first (cut_changed (part_item e.begun 0) e.command))
    ∙ ap (with_numbers first)
    (twice (with_item_value (take n (cut_data e.command))) (part_item e.begun 0) e.command
    ∙ agree_at (λ i. with_item_value (take n (cut_data e.command)) (part_item e.begun 0 i)) (part_item e.begun n) e.command
    d.item d.is
    (put_item e.begun n d.item (cut_data e.command) d.value))

-- marked and filled, a copy is the next part
pub part_made : (first n : ℕ) (size : Option ℕ) (c : Command) (value : List ℕ) (sent : ℕ) (e : Entry) (v : List ℕ)
    → IsTakenApart c value sent
    → entry_left c value sent ≡ e → 0 < data_left e → size ≡ size_told sent value → v ≡ take n (cut_data e.command)
    → cut_changed (with_item_value v) (cut_changed (marked size) (with_numbers first c)) ≡ with_numbers first (part_of e n)
part_made first n size c value sent e v a is some told filled =
    let left = ap data_left is in
    ap (cut_changed (with_item_value v)) (part_marked first size c value sent a (omega (arith, left, some)) told)
    ∙ ap (λ (x : Entry). cut_changed (with_item_value v) (with_numbers first (part_of x 0))) is
    ∙ ap (λ w. cut_changed (with_item_value w) (with_numbers first (part_of e 0))) filled
    ∙ part_filled first n e some

-- ---- a whole command

pub put_none : (v : List ℕ) (c : Command) → (length v == 0) ≡ true → put_back v c ≡ c
put_none [] c h = refl
put_none (b ∷ bs) c h = absurd (let long = eqb-true (length (b ∷ bs)) 0 h in omega (arith, long))

pub put_some : (v : List ℕ) (c : Command) → (length v == 0) ≡ false → put_back v c ≡ cut_changed (with_item_value v) c
put_some [] c h = absurd (eqb-false 0 0 h refl)
put_some (b ∷ bs) c h = refl

pub put_numbered : (first : ℕ) (v : List ℕ) (c : Command)
    → put_back v (with_numbers first c) ≡ with_numbers first (put_back v c)
put_numbered first [] c = refl
put_numbered first (b ∷ bs) c = sym (number_changed (with_item_value (b ∷ bs)) first c)

pub whole_filled : (first : ℕ) (c : Command) (value : List ℕ) (sent : ℕ) (e : Entry) (v : List ℕ) → IsTakenApart c value sent
    → entry_left c value sent ≡ e → v ≡ cut_data e.command
    → put_back v (with_numbers first c) ≡ with_numbers first e.command
whole_filled first c value sent e v a is left =
    put_numbered first v c
    ∙ ap (λ w. with_numbers first (put_back w c))
    (left ∙ ap (λ (x : Entry). cut_data x.command) (sym is) ∙ data_apart c value sent a)
    ∙ ap (λ (x : Entry). with_numbers first x.command) is

-- ---- the command that is kept

pub kept : (c : Command) (value : List ℕ) (sent : ℕ) (e : Entry) → IsTakenApart c value sent → entry_left c value sent ≡ e
    → cut_changed hollow_item e.command ≡ c
kept c value sent e a is = ap (λ (x : Entry). cut_changed hollow_item x.command) (sym is) ∙ hollow_apart c value sent a

pub kept_ids : (c : Command) (value : List ℕ) (sent : ℕ) (e : Entry) → IsTakenApart c value sent → entry_left c value sent ≡ e
    → ids_in c ≡ ids_in e.command
kept_ids c value sent e a is = ap ids_in (sym (kept c value sent e a is)) ∙ ids_changed hollow_item e.command

-- ---- the rest

pub only_next : {A : Type 0} (x y : A) (xs : List A) → last_only (x ∷ y ∷ xs) ≡ last_only (y ∷ xs)
only_next x y xs =
    ap (λ k. drop k (x ∷ y ∷ xs)) (less_one (suc (length xs))) ∙ ap (λ k. drop k (y ∷ xs)) (sym (less_one (length xs)))

last_of_only : {A : Type 0} (xs : List A) → list_last (last_only xs) ≡ list_last xs
last_of_only [] = refl
last_of_only (x ∷ []) = refl
last_of_only (x ∷ y ∷ xs) = ap list_last (only_next x y xs) ∙ last_of_only (y ∷ xs) ∙ sym (last_next x y xs)

only_changed_last : {A : Type 0} (f : A → A) (xs : List A)
    → last_only (last_changed f xs) ≡ last_changed f (last_only xs)
only_changed_last f [] = refl
only_changed_last f (x ∷ []) = refl
only_changed_last f (x ∷ y ∷ []) = refl
only_changed_last f (x ∷ y ∷ z ∷ xs) =
    only_next x y (last_changed f (z ∷ xs)) ∙ only_changed_last f (y ∷ z ∷ xs)
    ∙ ap (last_changed f) (sym (only_next x y (z ∷ xs)))

pub item_alone : (c : Command) → cut_item (last_alone c) ≡ cut_item c
item_alone (command.Plain c) = refl
item_alone (command.Alert c) = refl
item_alone (command.Atomic b) = ap (option_and_then member_item) (last_of_only b.members)
item_alone (command.Sequence b) = ap (option_and_then seq_member_item) (last_of_only b.members)
item_alone (command.Status c) = refl
item_alone (command.Results c) = refl

pub alone_changed : (f : Item → Item) (c : Command) → last_alone (cut_changed f c) ≡ cut_changed f (last_alone c)
alone_changed f (command.Plain c) = refl
alone_changed f (command.Alert c) = refl
alone_changed f (command.Atomic b) =
    ap (λ ms. command.Atomic (record b { members = ms })) (only_changed_last (member_changed f) b.members)
alone_changed f (command.Sequence b) =
    ap (λ ms. command.Sequence (record b { members = ms })) (only_changed_last (seq_member_changed f) b.members)
alone_changed f (command.Status c) = refl
alone_changed f (command.Results c) = refl

empty_alone : (c : Command) → HasEmptyData c → HasEmptyData (last_alone c)
empty_alone c e = record { item = e.item; is = item_alone c ∙ e.is; empty = e.empty }

pub left_long : (c : Command) (value : List ℕ) (sent : ℕ) (e : Entry) → IsTakenApart c value sent → entry_left c value sent ≡ e
    → data_left e ≡ length value - sent
left_long c value sent e a is =
    ap data_left (sym is) ∙ ap length (data_apart c value sent a) ∙ length-drop sent value

pub gone_apart : (c : Command) (value : List ℕ) (sent n later : ℕ) (e : Entry) → IsTakenApart c value sent
    → entry_left c value sent ≡ e
    → n < data_left e → later ≡ sent + n → IsTakenApart (last_alone c) value later
gone_apart c value sent n later e a is left same =
    let long = left_long c value sent e a is in
    record {
      hollow = ap data_in (item_alone c) ∙ a.hollow;
      place = λ some. empty_alone c (a.place some);
      within = omega (arith, long, left, same);
      some_left = λ some. omega (arith, long, left, same);
    }

rest_put : (n : ℕ) (c : Command) (d w : List ℕ) → w ≡ drop n d → 0 < length w → 0 < length d
    → put_back w (last_alone c) ≡ last_alone (cut_changed (rest_item n) (put_back d c))
rest_put n c d [] same some more = absurd (omega (arith, some))
rest_put n c [] (b ∷ bs) same some more = absurd (omega (arith, more))
rest_put n c (x ∷ xs) (b ∷ bs) same some more =
    sym (alone_changed (with_item_value (b ∷ bs)) c)
    ∙ ap (λ v. last_alone (cut_changed (with_item_value v) c)) same
    ∙ ap last_alone (sym (twice (rest_item n) (with_item_value (x ∷ xs)) c))

abbrev entry_at : Command → Bool → Entry
entry_at c begun = record { command = c; begun = begun }

rest_entry : (c d : Command) (a b : Bool) → c ≡ d → a ≡ b → entry_at c a ≡ entry_at d b
rest_entry c d a b x y = rw (x, y) refl

pub gone_is : (c : Command) (value : List ℕ) (sent n later : ℕ) (e : Entry) → IsTakenApart c value sent
    → entry_left c value sent ≡ e
    → 0 < n → n < data_left e → later ≡ sent + n → entry_left (last_alone c) value later ≡ rest_of e n
unfolding rest_of
gone_is c value sent n later e a is some left same =
    let long = left_long c value sent e a is in
    let now = length-drop sent value in
    let after = length-drop later value in
    rest_entry _ _ _ _
    (rest_put n c (drop sent value) (drop later value)
    (ap (λ k. drop k value) same ∙ sym (drop-drop n sent value))
    (omega (arith, long, left, same, after)) (omega (arith, long, left, now)))
    (ap not (ne_eqb later 0 (λ z. omega (arith, z, same, some))))
    ∙ ap (λ (x : Entry). rest_of x n) is

-- ---- parts in a message

pub hollow_part : (e : Entry) (n : ℕ) → cut_changed hollow_item (part_of e n) ≡ part_of e 0
unfolding part_of
hollow_part e n = twice hollow_item (part_item e.begun n) e.command

part_bytes : (begun : Bool) (n : ℕ) (c : Command) (d : HasData c)
    → cut_data (cut_changed (part_item begun n) c) ≡ take n (cut_data c)
part_bytes begun n c d =
    ap data_in (item_changed (part_item begun n) c ∙ ap (option_map (part_item begun n)) d.is)
    ∙ ap (λ o. take n (bytes_in o)) d.value

pub part_data : (e : Entry) (n : ℕ) → 0 < data_left e → cut_data (part_of e n) ≡ take n (cut_data e.command)
unfolding part_of
part_data e n some = part_bytes e.begun n e.command (has_data e.command some)

pub part_ids : (e : Entry) (n : ℕ) → ids_in (part_of e n) ≡ ids_in e.command
unfolding part_of
part_ids e n = ids_changed (part_item e.begun n) e.command
