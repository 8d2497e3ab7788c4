-- What is kept while a message is packed: entries with their Data apart, and how far the message has come.
use Rattle.std.specs.Prelude.{◌≡◌, ◌==◌, ◌<◌, ◌≤◌, ◌+◌, ℕ, Bool, true, not, if◌then◌else◌, List, [], ◌∷◌, length, drop}
use Rattle.std.specs.Prelude.{Option, Some, None, option_map, take, nat_le, ◌-◌}
use Rattle.wbxml_tokens.specs.Spelling.{spelled, page_behind}
use Rattle.wbxml_tables.specs.declared.Element.TheVariants.{ESize}
use Rattle.syncml_types.specs.declared.values.Meta.{Meta}
use Rattle.syncml_types.specs.declared.values.Item.{Item}
use Rattle.syncml_types.specs.declared.values.Header.{Header}
use Rattle.syncml_types.specs.declared.command.Command.{Command}
use Rattle.syncml_types.specs.Canonical.{optional, number_tokens, is_empty_meta, command_tokens, commands_tokens}
use Rattle.syncml_types.specs.Lengths.{head_tokens}
use Rattle.syncml_parts.specs.Numbering.{ids_in, with_numbers}
use Rattle.syncml_parts.specs.Packing.{cut_item, cut_changed, cut_data, data_length, head_bytes, body_tag, tail_tokens}
use Rattle.syncml_parts.specs.Pages.{with_item_value}
use Rattle.dm_pack.specs.declared.kept_data.Apart.{Apart}
use Rattle.dm_pack.specs.declared.place.Place.{Place}
use Rattle.dm_pack.specs.declared.filled.Tail.{Tail}
use Rattle.dm_pack.specs.Entries.{Entry, with_size, part_of, data_left}
use Rattle.dm_pack.specs.Filling.{numbered, asks_next, greatest, tail_commands, is_final}

-- ---- Data apart

-- an item whose Data was taken out
abbrev pub hollow_item : Item → Item
hollow_item i = record i { value = option_map (λ _. []) i.value }

-- Data that is kept apart, and how many bytes of it went out
abbrev pub apart_value : Option Apart → List ℕ
apart_value None = []
apart_value (Some apart) = apart.value

abbrev pub apart_sent : Option Apart → ℕ
apart_sent None = 0
apart_sent (Some apart) = apart.sent

-- what is left of the Data, put back where it was taken out
abbrev pub put_back : List ℕ → Command → Command
put_back [] c = c
put_back (b ∷ bs) c = cut_changed (with_item_value (b ∷ bs)) c

-- the entry of which so many bytes went out
abbrev pub entry_left : Command → List ℕ → ℕ → Entry
entry_left c value sent = record { command = put_back (drop sent value) c; begun = not (sent == 0) }

-- a part's item, all but its Data
abbrev pub marked : Option ℕ → Item → Item
marked None i = record i { more = true }
marked (Some size) i = record i { meta = with_size size i.meta; more = true }

-- how long Data is, told where none of it went out
abbrev pub size_told : ℕ → List ℕ → Option ℕ
size_told sent value = if sent == 0 then Some (length value) else None

-- what a Meta costs in front of empty Data, the children but Size aside
abbrev pub meta_cost : Option Meta → ℕ
meta_cost None = 0
meta_cost (Some meta) =
    if is_empty_meta meta then 1 else 6 + length (spelled 1 (optional (number_tokens ESize) meta.size))

-- and with MoreData
abbrev pub marks_cost : Item → ℕ
marks_cost i = meta_cost i.meta + (if i.more then 1 else 0)

abbrev pub marks_in : Option Item → ℕ
marks_in None = 0
marks_in (Some i) = marks_cost i

abbrev pub marks_of : Command → ℕ
marks_of c = marks_in (cut_item c)

pub record HasEmptyData (c : Command) : Type 0 where
  pub item : Item
  pub is : cut_item c ≡ Some item
  pub empty : item.value ≡ Some []

pub record IsTakenApart (c : Command) (value : List ℕ) (sent : ℕ) : Type 0 where
  pub hollow : cut_data c ≡ []
  pub place : 0 < length value → HasEmptyData c
  pub within : sent ≤ length value
  pub some_left : 0 < length value → sent < length value

-- ---- how far a message has come

-- how many CmdIDs commands have
abbrev pub ids_of : List Command → ℕ
ids_of [] = 0
ids_of (c ∷ cs) = ids_in c + ids_of cs

-- the bytes up to the end of its commands
unfoldable pub front_length : Header → List Command → ℕ
front_length h cs =
    length (head_bytes h) + length (spelled (page_behind 0 (head_tokens h)) body_tag)
    + length (spelled 0 (commands_tokens (numbered 1 cs)))

-- the page behind them
unfoldable pub front_page : List Command → ℕ
front_page cs = page_behind 0 (commands_tokens (numbered 1 cs))

-- the bytes of an Alert 1222 and Final, and of what ends the message
unfoldable pub end_length : ℕ → ℕ → ℕ
end_length page id =
    let alert = command_tokens (with_numbers id asks_next) in
    length (spelled page alert) + length (spelled (page_behind page alert) (tail_tokens true))

-- how far a message of these commands has come
abbrev pub place_of : Header → List Command → Place
place_of h cs = record { used = front_length h cs; page = front_page cs; next = 1 + ids_of cs }

-- and with one more
abbrev pub place_past : Place → Command → Place
place_past p c =
    let d = with_numbers p.next c in
    record {
      used = p.used + length (spelled p.page (command_tokens d));
      page = page_behind p.page (command_tokens d);
      next = p.next + ids_in c;
    }

-- and with several
abbrev pub behind_all : Place → List Command → Place
behind_all p [] = p
behind_all p (c ∷ cs) = behind_all (place_past p c) cs

-- and with an entry without its Data
abbrev pub behind_hollow : Place → Entry → Place
behind_hollow p e = place_past p (cut_changed hollow_item e.command)

-- behind the first entry of those that are left, without its Data
abbrev pub hollow_next : Place → List Entry → Option Place
hollow_next p [] = None
hollow_next p (e ∷ es) = Some (behind_hollow p e)

-- behind an entry's next part in the place of the whole, both without Data
abbrev pub with_marks : Entry → Place → Place
with_marks e p = record p { used = p.used + marks_of (part_of e 0) - marks_of e.command }

-- the bytes of what stands at the end, and of what ends the message
unfoldable pub tail_length : Place → Tail → ℕ
tail_length p t =
    let asks = commands_tokens (numbered p.next (tail_commands t)) in
    length (spelled p.page asks) + length (spelled (page_behind p.page asks) (tail_tokens (is_final t)))

abbrev pub fits_at : ℕ → Place → Bool
fits_at room p = nat_le (p.used + end_length p.page p.next) room

-- what Data costs beside an empty Data element: its token, and an END
unfoldable pub data_cost : List ℕ → ℕ
data_cost [] = 0
data_cost (b ∷ bs) = 1 + data_length (b ∷ bs)

-- with Data put into an entry
abbrev pub with_cost : List ℕ → Place → Place
with_cost value p = record p { used = p.used + data_cost value }

-- a place, where the message fits with it
abbrev pub within : ℕ → Place → Option Place
within room p = if fits_at room p then Some p else None

abbrev pub cost_within : List ℕ → ℕ → Option ℕ
cost_within value room = if nat_le (data_cost value) room then Some (data_cost value) else None

-- the greatest number of bytes, fewer than all, that fit with their token
unfoldable pub greatest_within : List ℕ → ℕ → ℕ
greatest_within value budget = greatest (λ n. nat_le (data_length (take n value)) budget) (length value - 1)

-- of a value, fewer than all, with which a message fits that has come so far with its part
unfoldable pub greatest_with : Place → List ℕ → ℕ → ℕ
greatest_with p value room = greatest (λ n. fits_at room (with_cost (take n value) p)) (length value - 1)

-- and with which a part of an entry fits behind a place
unfoldable pub greatest_at : Place → Entry → ℕ → ℕ
greatest_at p e room = greatest (λ n. fits_at room (place_past p (part_of e n))) (data_left e - 1)

-- of the first entry of those that are left
abbrev pub cut_at : Place → ℕ → List Entry → ℕ
cut_at p room [] = 0
cut_at p room (e ∷ es) = greatest_at p e room
