-- How far a message has come, and whether it fits.
use Rattle.std.proofs.Common.{◌≡◌, ◌==◌, ◌<◌, ◌≤◌, ◌+◌, ◌-◌, ℕ, Bool, true, false, if◌then◌else◌, List, [], ◌∷◌, ◌++◌}
use Rattle.std.proofs.Common.{length, length-append, nat_le, Some, None, option_map, refl, sym, ap, ◌∙◌, arith, min}
use Rattle.std.proofs.Common.{◌^◌}
use Rattle.std.proofs.lemmas.List.{append-nil}
use Rattle.std.proofs.lemmas.Bool.{ne_eqb, leb-true, leb-false, le-leb}
use Rattle.wbxml_tables.specs.declared.Element.TheVariants.{EFinal, ESyncBody}
use Rattle.wbxml_tables.specs.Tables.{page_of}
use Rattle.wbxml_tokens.specs.Spelling.{spelled, page_behind}
use Rattle.syncml_types.specs.declared.values.Item.{Item}
use Rattle.syncml_types.specs.declared.values.Header.{Header}
use Rattle.syncml_types.specs.declared.command.Command.{Command}
use Rattle.syncml_types.specs.Canonical.{canonical, command_tokens, commands_tokens, header_tokens, flag_tokens}
use Rattle.syncml_types.specs.Lengths.{head_tokens, up_to_most, spelled_length}
use Rattle.syncml_parts.specs.Numbering.{with_numbers, ids_in}
use Rattle.syncml_parts.specs.Packing.{cut_changed, cut_data, without_data, data_in, data_length, head_bytes, body_tag}
use Rattle.syncml_parts.specs.Packing.{tail_tokens}
use Rattle.syncml_parts.specs.Pages.{with_item_value}
use Rattle.syncml_parts.proofs.Parted.{spells_in_parts, spells_commands, bounds_data}
use Rattle.syncml_parts.proofs.Pages.{page_without_data, page_without_numbers}
use Rattle.syncml_parts.proofs.Rest.{rest_and_data}
use Rattle.dm_pack.specs.declared.place.Place.{Place}
use Rattle.dm_pack.specs.Entries.{Entry}
use Rattle.dm_pack.specs.Filling.{numbered, asks_next, fits_room}
use Rattle.dm_pack.specs.Measures.{ids_of, front_length, front_page, end_length, place_past, behind_hollow, fits_at}
use Rattle.dm_pack.specs.Measures.{within}
use Rattle.dm_pack.specs.Measures.{with_cost, place_of, hollow_item, data_cost, cost_within}
use Rattle.dm_pack.proofs.Changing.{agree_at}
use Rattle.dm_pack.proofs.Numbers.{numbered_append, ids_append, number_changed, item_numbered, many_bytes, ids_changed}
use Rattle.dm_pack.proofs.Apart.{HasData, has_data, nothing_out}

pub one_alone : (c : Command) → commands_tokens (c ∷ []) ≡ command_tokens c
unfolding commands_tokens
one_alone c = append-nil (command_tokens c)

-- ---- one command more

abbrev pub place_at : ℕ → ℕ → ℕ → Place
place_at used page next = record { used = used; page = page; next = next }

pub same_place : (a b p q m n : ℕ) → a ≡ b → p ≡ q → m ≡ n → place_at a p m ≡ place_at b q n
same_place a b p q m n x y z = rw (x, y, z) refl

next_number : (h : Header) (cs : List Command) (c : Command)
    → numbered 1 (cs ++ c ∷ []) ≡ numbered 1 cs ++ with_numbers (1 + ids_of cs) c ∷ []
next_number h cs c = numbered_append 1 cs (c ∷ [])

tokens_next : (page : ℕ) (ns : List Command) (d : Command)
    → spelled page (commands_tokens (ns ++ d ∷ [])) ≡ spelled page (commands_tokens ns)
    ++ spelled (page_behind page (commands_tokens ns)) (command_tokens d)
tokens_next page ns d =
    (spells_commands page ns (d ∷ [])).0
    ∙ ap (λ ts. spelled page (commands_tokens ns) ++ spelled (page_behind page (commands_tokens ns)) ts) (one_alone d)

page_next : (page : ℕ) (ns : List Command) (d : Command)
    → page_behind page (commands_tokens (ns ++ d ∷ []))
    ≡ page_behind (page_behind page (commands_tokens ns)) (command_tokens d)
page_next page ns d =
    (spells_commands page ns (d ∷ [])).1 ∙ ap (page_behind (page_behind page (commands_tokens ns))) (one_alone d)

longer : (h : Header) (cs : List Command) (c : Command)
    → front_length h (cs ++ c ∷ [])
    ≡ front_length h cs + length (spelled (front_page cs) (command_tokens (with_numbers (1 + ids_of cs) c)))
unfolding front_length front_page
longer h cs c =
    let number = next_number h cs c in
    let tokens = tokens_next 0 (numbered 1 cs) (with_numbers (1 + ids_of cs) c) in
    let whole = ap (λ ns. length (spelled 0 (commands_tokens ns))) number ∙ ap length tokens
    ∙ length-append (spelled 0 (commands_tokens (numbered 1 cs)))
    (spelled (page_behind 0 (commands_tokens (numbered 1 cs))) (command_tokens (with_numbers (1 + ids_of cs) c))) in
    omega (arith, whole)

page_later : (h : Header) (cs : List Command) (c : Command)
    → front_page (cs ++ c ∷ []) ≡ page_behind (front_page cs) (command_tokens (with_numbers (1 + ids_of cs) c))
unfolding front_page
page_later h cs c =
    ap (λ ns. page_behind 0 (commands_tokens ns)) (next_number h cs c)
    ∙ page_next 0 (numbered 1 cs) (with_numbers (1 + ids_of cs) c)

next_later : (cs : List Command) (c : Command) → 1 + ids_of (cs ++ c ∷ []) ≡ 1 + ids_of cs + ids_in c
next_later cs c = let sum = ids_append cs (c ∷ []) in omega (arith, sum)

pub behind_is : (h : Header) (cs : List Command) (c : Command) → place_past (place_of h cs) c ≡ place_of h (cs ++ c ∷ [])
behind_is h cs c = sym (same_place _ _ _ _ _ _ (longer h cs c) (page_later h cs c) (next_later cs c))

-- ---- whether it fits

parted : (h : Header) (cs : List Command) (last : Bool) → 0 < length cs
    → canonical (record { header = h; body = cs; last = last })
    ≡ head_bytes h ++ spelled (page_behind 0 (head_tokens h)) body_tag ++ spelled 0 (commands_tokens cs)
    ++ spelled (page_behind 0 (commands_tokens cs)) (tail_tokens last)
parted h [] last some = absurd (omega (arith, some))
parted h (c ∷ cs) last some = spells_in_parts h c cs last

pub long_parted : (h : Header) (cs : List Command) (last : Bool) → 0 < length cs
    → length (canonical (record { header = h; body = cs; last = last }))
    ≡ length (head_bytes h) + length (spelled (page_behind 0 (head_tokens h)) body_tag)
    + length (spelled 0 (commands_tokens cs)) + length (spelled (page_behind 0 (commands_tokens cs)) (tail_tokens last))
long_parted h cs last some =
    let a = head_bytes h in
    let b = spelled (page_behind 0 (head_tokens h)) body_tag in
    let c = spelled 0 (commands_tokens cs) in
    let d = spelled (page_behind 0 (commands_tokens cs)) (tail_tokens last) in
    let whole = ap length (parted h cs last some) in
    let x = length-append (a ++ b ++ c) d in
    let y = length-append (a ++ b) c in
    let z = length-append a b in
    omega (arith, whole, x, y, z)

some_more : {A : Type 0} (xs : List A) (x : A) → 0 < length (xs ++ x ∷ [])
some_more xs x = let sum = length-append xs (x ∷ []) in omega (arith, sum)

pub long_measured : (h : Header) (cs : List Command)
    → length (canonical (record { header = h; body = numbered 1 (cs ++ asks_next ∷ []); last = true }))
    ≡ front_length h cs + end_length (front_page cs) (1 + ids_of cs)
unfolding front_length front_page end_length
long_measured h cs =
    let d = with_numbers (1 + ids_of cs) asks_next in
    let ns = numbered 1 cs in
    let body =
    ap (λ b. length (canonical (record { header = h; body = b; last = true })))
    (numbered_append 1 cs (asks_next ∷ [])) in
    let whole = long_parted h (ns ++ d ∷ []) true (some_more ns d) in
    let tokens =
    ap length (tokens_next 0 ns d)
    ∙ length-append (spelled 0 (commands_tokens ns))
    (spelled (page_behind 0 (commands_tokens ns)) (command_tokens d)) in
    let tail = ap (λ p. length (spelled p (tail_tokens true))) (page_next 0 ns d) in
    omega (arith, body, whole, tokens, tail)

pub fits_is : (h : Header) (room : ℕ) (cs : List Command) → fits_room h room cs ≡ fits_at room (place_of h cs)
unfolding fits_room
fits_is h room cs = ap (λ n. nat_le n room) (long_measured h cs)

pub fits_next : (h : Header) (room : ℕ) (cs : List Command) (c : Command)
    → fits_room h room (cs ++ c ∷ []) ≡ fits_at room (place_past (place_of h cs) c)
fits_next h room cs c = fits_is h room (cs ++ c ∷ []) ∙ ap (fits_at room) (sym (behind_is h cs c))

pub next_low : (p : Place) (c : Command) → p.next ≤ 1 + p.used → (place_past p c).next ≤ 1 + (place_past p c).used
next_low p c h = let many = many_bytes p.page p.next c in omega (arith, h, many)

-- ---- Data apart

pub data_numbered : (n : ℕ) (c : Command) → cut_data (with_numbers n c) ≡ cut_data c
data_numbered n c = ap data_in (item_numbered n c)

hollow_empties : (i : Item) (v : List ℕ) → i.value ≡ Some v → without_data i ≡ hollow_item i
hollow_empties i v h = ap (λ o. record i { value = o }) (sym (ap (option_map (λ _. [])) h))

emptied_is : (c : Command) (d : HasData c) → cut_changed without_data c ≡ cut_changed hollow_item c
emptied_is c d = agree_at without_data hollow_item c d.item d.is (hollow_empties d.item (cut_data c) d.value)

long_some : (page n : ℕ) (c : Command) → 0 < length (cut_data c)
    → length (spelled page (command_tokens (with_numbers n c)))
    ≡ length (spelled page (command_tokens (with_numbers n (cut_changed hollow_item c)))) + 1 + data_length (cut_data c)
long_some page n c some =
    let data_same = data_numbered n c in
    let whole = rest_and_data page (with_numbers n c) (let long = ap length data_same in omega (arith, some, long)) in
    let value = ap data_length data_same in
    let rest = ap (λ d. length (spelled page (command_tokens d)))
    (sym (number_changed without_data n c) ∙ ap (with_numbers n) (emptied_is c (has_data c some))) in
    omega (arith, whole, value, rest)

long_by : (page n : ℕ) (c : Command) (v : List ℕ) → cut_data c ≡ v
    → length (spelled page (command_tokens (with_numbers n c)))
    ≡ length (spelled page (command_tokens (with_numbers n (cut_changed hollow_item c)))) + data_cost v
unfolding data_cost
long_by page n c [] is =
    let same = ap (λ d. length (spelled page (command_tokens (with_numbers n d)))) (nothing_out c is) in
    omega (arith, same)
long_by page n c (b ∷ bs) is =
    let long = ap length is in
    let whole = long_some page n c (omega (arith, long)) in
    let value = ap data_length is in
    omega (arith, whole, value)

-- a command is as long as without its Data and that
pub long_apart : (page n : ℕ) (c : Command)
    → length (spelled page (command_tokens (with_numbers n c)))
    ≡ length (spelled page (command_tokens (with_numbers n (cut_changed hollow_item c)))) + data_cost (cut_data c)
long_apart page n c = long_by page n c (cut_data c) refl

page_by : (page n : ℕ) (c : Command) (v : List ℕ) → cut_data c ≡ v
    → page_behind page (command_tokens (with_numbers n (cut_changed hollow_item c)))
    ≡ page_behind page (command_tokens (with_numbers n c))
page_by page n c [] is = ap (λ d. page_behind page (command_tokens (with_numbers n d))) (nothing_out c is)
page_by page n c (b ∷ bs) is =
    let d = has_data c (let long = ap length is in omega (arith, long)) in
    page_without_numbers page n (cut_changed hollow_item c)
    ∙ ap (λ e. page_behind page (command_tokens e))
    (agree_at hollow_item (with_item_value []) c d.item d.is (sym (hollow_empties d.item (cut_data c) d.value)))
    ∙ page_without_data page c d.item (cut_data c) [] d.is d.value
    ∙ sym (page_without_numbers page n c)

pub page_apart : (page n : ℕ) (c : Command)
    → page_behind page (command_tokens (with_numbers n (cut_changed hollow_item c)))
    ≡ page_behind page (command_tokens (with_numbers n c))
page_apart page n c = page_by page n c (cut_data c) refl

pub ids_apart : (c : Command) → ids_in (cut_changed hollow_item c) ≡ ids_in c
ids_apart c = ids_changed hollow_item c

-- ---- the end

pub tail_on_page : length (spelled 0 (tail_tokens true)) ≡ 3
unfolding flag_tokens
tail_on_page = refl

tail_by : (p : ℕ) (same : Bool) → (page_of EFinal == p) ≡ same → same ≡ false
    → length (spelled p (tail_tokens true)) ≡ 5
unfolding flag_tokens
tail_by p true e h = absurd (cc)
tail_by p false e h = rw e refl

pub tail_on_other : (p : ℕ) → (p ≡ 0 → ⊥) → length (spelled p (tail_tokens true)) ≡ 5
tail_on_other p h = tail_by p (page_of EFinal == p) refl (ne_eqb (page_of EFinal) p (λ e. h (sym e)))

-- ---- the cost of Data

cost_low : (v : List ℕ) → 0 < length v → length v + 3 ≤ data_cost v
unfolding data_cost
cost_low [] h = absurd (omega (arith, h))
cost_low (b ∷ bs) h = let low = (bounds_data (b ∷ bs)).0 in omega (arith, low)

by_test : (n room : ℕ) (b : Bool) → nat_le n room ≡ b → b ≡ false → (if nat_le n room then Some n else None) ≡ None
by_test n room true e h = absurd (cc)
by_test n room false e h = rw e refl

by_test_some : (n room : ℕ) (b : Bool) → nat_le n room ≡ b → b ≡ true
    → (if nat_le n room then Some n else None) ≡ Some n
by_test_some n room true e h = rw e refl
by_test_some n room false e h = absurd (cc)

over_by : (a b : ℕ) (t : Bool) → nat_le a b ≡ t → b < a → t ≡ false
over_by a b true e h = absurd (let low = leb-true a b e in omega (arith, low, h))
over_by a b false e h = refl

pub over_false : (a b : ℕ) → b < a → nat_le a b ≡ false
over_false a b h = over_by a b (nat_le a b) refl h

pub cost_over : (v : List ℕ) (room : ℕ) → room < data_cost v → cost_within v room ≡ None
cost_over v room h = by_test (data_cost v) room (nat_le (data_cost v) room) refl (over_false (data_cost v) room h)

pub cost_under : (v : List ℕ) (room : ℕ) → data_cost v ≤ room → cost_within v room ≡ Some (data_cost v)
cost_under v room h = by_test_some (data_cost v) room (nat_le (data_cost v) room) refl (le-leb (data_cost v) room h)

was_over_by : (n room : ℕ) (t : Bool) → nat_le n room ≡ t → (if t then Some n else None) ≡ None → room < n
was_over_by n room true e h = absurd (cc)
was_over_by n room false e h = leb-false n room e

pub cost_was_over : (v : List ℕ) (room : ℕ) → cost_within v room ≡ None → room < data_cost v
cost_was_over v room h = was_over_by (data_cost v) room (nat_le (data_cost v) room) refl h

was_under_by : (n room cost : ℕ) (t : Bool) → nat_le n room ≡ t → (if t then Some n else None) ≡ Some cost
    → (n ≤ room) × (cost ≡ n)
was_under_by n room cost true e h = (leb-true n room e, let same : n ≡ cost = cc in sym same)
was_under_by n room cost false e h = absurd (cc)

pub cost_was_under : (v : List ℕ) (room cost : ℕ) → cost_within v room ≡ Some cost
    → (data_cost v ≤ room) × (cost ≡ data_cost v)
cost_was_under v room cost h = was_under_by (data_cost v) room cost (nat_le (data_cost v) room) refl h

pub cost_none : (v : List ℕ) (room : ℕ) → 0 < length v → room ≤ length v → cost_within v room ≡ None
cost_none v room some h = let low = cost_low v some in cost_over v room (omega (arith, low, h))

pub cost_of : (v : List ℕ) → 0 < length v → data_cost v ≡ 1 + data_length v
unfolding data_cost
cost_of [] h = absurd (omega (arith, h))
cost_of (b ∷ bs) h = refl

pub cost_nothing : (v : List ℕ) (room : ℕ) → length v ≡ 0 → cost_within v room ≡ Some 0
unfolding data_cost
cost_nothing [] room h = cost_under [] room (omega arith)
cost_nothing (b ∷ bs) room h = absurd (omega (arith, h))

-- ---- the start

pub tag_on_page : length (spelled 0 body_tag) ≡ 1
tag_on_page = refl

tag_by : (p : ℕ) (same : Bool) → (page_of ESyncBody == p) ≡ same → same ≡ false → length (spelled p body_tag) ≡ 3
tag_by p true e h = absurd (cc)
tag_by p false e h = rw e refl

pub tag_on_other : (p : ℕ) → (p ≡ 0 → ⊥) → length (spelled p body_tag) ≡ 3
tag_on_other p h = tag_by p (page_of ESyncBody == p) refl (ne_eqb (page_of ESyncBody) p (λ e. h (sym e)))

pub head_long : (h : Header) → length (spelled 0 (head_tokens h)) ≡ 1 + length (spelled 0 (header_tokens h))
head_long h = omega arith

pub start_is : (h : Header) (bytes page tag : ℕ) → length (spelled 0 (header_tokens h)) ≤ 600
    → bytes ≡ spelled_length 5 0 (head_tokens h) → page ≡ page_behind 0 (head_tokens h)
    → tag ≡ length (spelled page body_tag)
    → place_at (bytes + tag) 0 1 ≡ place_of h []
unfolding front_length front_page commands_tokens
start_is h bytes page tag short b p t =
    let long = head_long h in
    let same = t ∙ ap (λ q. length (spelled q body_tag)) p in
    same_place _ _ _ _ _ _ (omega (arith, short, b, long, same)) refl (omega arith)

-- ---- one entry more

not_within : (room : ℕ) (p : Place) → fits_at room p ≡ false → within room p ≡ None
not_within room p h = rw h refl

is_within : (room : ℕ) (p : Place) → fits_at room p ≡ true → within room p ≡ Some p
is_within room p h = rw h refl

-- a command is behind its Data, put in where it was taken out
pub data_behind : (p : Place) (c : Command) → with_cost (cut_data c) (place_past p (cut_changed hollow_item c)) ≡ place_past p c
data_behind p c =
    let whole = long_apart p.page p.next c in
    same_place _ _ _ _ _ _ (omega (arith, whole)) (page_apart p.page p.next c) (ap (λ n. p.next + n) (ids_apart c))

pub reached : (p q : Place) (e : Entry) (v : List ℕ) → v ≡ cut_data e.command → q ≡ behind_hollow p e
    → with_cost v q ≡ place_past p e.command
reached p q e v left is =
    ap (λ w. with_cost w q) left ∙ ap (with_cost (cut_data e.command)) is ∙ data_behind p e.command

pub hollow_is : (p : Place) (e : Entry) (bytes page ids : ℕ)
    → length (spelled p.page (command_tokens (with_numbers p.next (cut_changed hollow_item e.command)))) ≤ 1045
    → bytes ≡ spelled_length 0 p.page (command_tokens (with_numbers p.next (cut_changed hollow_item e.command)))
    → page ≡ page_behind p.page (command_tokens (with_numbers p.next e.command)) → ids ≡ ids_in e.command
    → place_at (p.used + bytes) page (p.next + ids) ≡ behind_hollow p e
hollow_is p e bytes page ids most b g i =
    same_place _ _ _ _ _ _ (omega (arith, b, most)) (g ∙ sym (page_apart p.page p.next e.command))
    (ap (λ n. p.next + n) (i ∙ sym (ids_apart e.command)))

-- an entry without its Data, an Alert 1222 and Final come so far
abbrev pub least_of : Place → ℕ → ℕ
least_of p end = min (p.used + end) (2 ^ 64 - 1)

pub no_room : (p : Place) (v : List ℕ) (room end least : ℕ) → end ≡ up_to_most (end_length p.page p.next) → room ≤ 65536
    → least ≡ least_of p end → room < least → None ≡ within room (with_cost v p)
no_room p v room end least e most is over =
    sym (not_within room (with_cost v p) (over_false _ room (omega (arith, e, most, is, over))))

pub no_data : (p : Place) (v : List ℕ) (room end least : ℕ) → end ≡ up_to_most (end_length p.page p.next) → room ≤ 65536
    → least ≡ least_of p end → least ≤ room → None ≡ cost_within v (room - least) → None ≡ within room (with_cost v p)
no_data p v room end least e most is under none =
    let over = cost_was_over v (room - least) (sym none) in
    sym (not_within room (with_cost v p) (over_false _ room (omega (arith, e, most, is, under, over))))

pub with_data : (p : Place) (v : List ℕ) (room end least cost : ℕ) → end ≡ up_to_most (end_length p.page p.next)
    → room ≤ 65536
    → least ≡ least_of p end → least ≤ room → Some cost ≡ cost_within v (room - least)
    → Some (place_at (p.used + cost) p.page p.next) ≡ within room (with_cost v p)
with_data p v room end least cost e most is under some =
    let costs = cost_was_under v (room - least) cost (sym some) in
    let low = costs.0 in
    ap (λ n. Some (place_at (p.used + n) p.page p.next)) costs.1
    ∙ sym (is_within room (with_cost v p) (le-leb _ room (omega (arith, e, most, is, under, low))))
