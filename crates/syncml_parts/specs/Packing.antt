-- What packing needs: a spelling taken apart, and the item whose Data may be cut.
use Rattle.std.specs.Prelude.{◌≡◌, ◌<◌, ◌≤◌, ◌+◌, ◌^◌, ℕ, Bool, true, false, List, [], ◌∷◌, ◌++◌, length, Option, Some}
use Rattle.std.specs.Prelude.{None, option_and_then, slice_get, ◌-◌}
use Rattle.wbxml_tables.specs.declared.Element.TheVariants.{ESyncBody, EFinal}
use Rattle.wbxml_tokens.specs.declared.token.Token.{Token}
use Rattle.wbxml_tokens.specs.declared.token.Token.TheVariants.{Tag, End}
use Rattle.wbxml_tokens.specs.Spelling.{token_bytes, spelled, page_behind, prologue}
use Rattle.syncml_types.specs.declared.values.Item.{Item}
use Rattle.syncml_types.specs.declared.values.Header.{Header}
use Rattle.syncml_types.specs.declared.command.Verb.{Verb}
use Rattle.syncml_types.specs.declared.command.Verb.TheVariants as verb
use Rattle.syncml_types.specs.declared.command.Member.{Member}
use Rattle.syncml_types.specs.declared.command.Member.TheVariants as member
use Rattle.syncml_types.specs.declared.command.SeqMember.{SeqMember}
use Rattle.syncml_types.specs.declared.command.SeqMember.TheVariants as seq_member
use Rattle.syncml_types.specs.declared.command.Command.{Command}
use Rattle.syncml_types.specs.declared.command.Command.TheVariants as command
use Rattle.syncml_types.specs.Canonical.{data_piece, flag_tokens, command_tokens, commands_tokens, canonical}
use Rattle.syncml_types.specs.Lengths.{head_tokens}

-- ---- a spelling taken apart

-- the bytes before the body
abbrev pub head_bytes : Header → List ℕ
head_bytes h = prologue ++ spelled 0 (head_tokens h)

-- the tag of a body that has children
abbrev pub body_tag : List Token
body_tag = Tag ESyncBody true ∷ []

-- Final where it is set, and the two ENDs
abbrev pub tail_tokens : Bool → List Token
tail_tokens last = flag_tokens EFinal last ++ End ∷ End ∷ []

-- a message whose body has children is its head, the body's tag, its commands from page 0 on and the tail from the page
-- behind them on
abbrev pub SpellsInParts : Type 0
SpellsInParts =
    (h : Header) (c : Command) (cs : List Command) (last : Bool)
    → canonical (record { header = h; body = c ∷ cs; last = last })
    ≡ head_bytes h
    ++ spelled (page_behind 0 (head_tokens h)) body_tag
    ++ spelled 0 (commands_tokens (c ∷ cs))
    ++ spelled (page_behind 0 (commands_tokens (c ∷ cs))) (tail_tokens last)

-- commands one after the other, each from the page behind those before it on
abbrev pub SpellsCommands : Type 0
SpellsCommands =
    (page : ℕ) (cs ds : List Command)
    → (spelled page (commands_tokens (cs ++ ds))
    ≡ spelled page (commands_tokens cs) ++ spelled (page_behind page (commands_tokens cs)) (commands_tokens ds))
    × (page_behind page (commands_tokens (cs ++ ds))
    ≡ page_behind (page_behind page (commands_tokens cs)) (commands_tokens ds))

-- ---- Data

-- how long the token is that holds Data
abbrev pub data_length : List ℕ → ℕ
data_length value = length (token_bytes 0 (data_piece value))

-- at least two bytes more than the Data, and below 2,097,152 bytes at most four
abbrev pub BoundsData : Type 0
BoundsData =
    (value : List ℕ) → (length value + 2 ≤ data_length value)
    × (length value < 2 ^ 21 → data_length value ≤ length value + 4)

-- ---- the item whose Data may be cut

-- the one item of a list
abbrev pub only_item : List Item → Option Item
only_item (i ∷ []) = Some i
only_item other = None

-- an Add or Replace with one item
abbrev pub write_item : Verb → List Item → Option Item
write_item verb.Add items = only_item items
write_item verb.Replace items = only_item items
write_item other items = None

abbrev pub member_item : Member → Option Item
member_item (member.One c) = write_item c.verb c.items
member_item (member.Alert c) = None

abbrev pub seq_member_item : SeqMember → Option Item
seq_member_item (seq_member.Single m) = member_item m
seq_member_item (seq_member.Atomic b) = None

-- the last of a list
abbrev pub list_last : {A : Type 0} → List A → Option A
list_last xs = slice_get xs (length xs - 1)

-- that of Results, of an Add or Replace with one item, and of a container whose last member is one
abbrev pub cut_item : Command → Option Item
cut_item (command.Plain c) = write_item c.verb c.items
cut_item (command.Alert c) = None
cut_item (command.Atomic b) = option_and_then member_item (list_last b.members)
cut_item (command.Sequence b) = option_and_then seq_member_item (list_last b.members)
cut_item (command.Status c) = None
cut_item (command.Results c) = only_item c.items

-- ---- that item changed where it stands

abbrev pub only_changed : (Item → Item) → List Item → List Item
only_changed f (i ∷ []) = f i ∷ []
only_changed f other = other

abbrev pub write_changed : (Item → Item) → Verb → List Item → List Item
write_changed f verb.Add items = only_changed f items
write_changed f verb.Replace items = only_changed f items
write_changed f other items = items

abbrev pub member_changed : (Item → Item) → Member → Member
member_changed f (member.One c) = member.One (record c { items = write_changed f c.verb c.items })
member_changed f (member.Alert c) = member.Alert c

abbrev pub seq_member_changed : (Item → Item) → SeqMember → SeqMember
seq_member_changed f (seq_member.Single m) = seq_member.Single (member_changed f m)
seq_member_changed f (seq_member.Atomic b) = seq_member.Atomic b

abbrev pub last_changed : {A : Type 0} → (A → A) → List A → List A
last_changed f [] = []
last_changed f (x ∷ []) = f x ∷ []
last_changed f (x ∷ y ∷ xs) = x ∷ last_changed f (y ∷ xs)

-- a command without one stays
abbrev pub cut_changed : (Item → Item) → Command → Command
cut_changed f (command.Plain c) = command.Plain (record c { items = write_changed f c.verb c.items })
cut_changed f (command.Alert c) = command.Alert c
cut_changed f (command.Atomic b) = command.Atomic (record b { members = last_changed (member_changed f) b.members })
cut_changed f (command.Sequence b) =
    command.Sequence (record b { members = last_changed (seq_member_changed f) b.members })
cut_changed f (command.Status c) = command.Status c
cut_changed f (command.Results c) = command.Results (record c { items = only_changed f c.items })

-- ---- a command's length without the Data of that item

abbrev pub without_data : Item → Item
without_data i = record i { value = Some [] }

-- all but the token of the Data: with the Data emptied, and the END that Data has where it isn't empty
abbrev pub rest_length : ℕ → Command → ℕ
rest_length page c = length (spelled page (command_tokens (cut_changed without_data c))) + 1

abbrev pub bytes_in : Option (List ℕ) → List ℕ
bytes_in None = []
bytes_in (Some value) = value

abbrev pub data_in : Option Item → List ℕ
data_in None = []
data_in (Some i) = bytes_in i.value

-- the Data of the item that may be cut
abbrev pub cut_data : Command → List ℕ
cut_data c = data_in (cut_item c)

abbrev pub RestAndData : Type 0
RestAndData =
    (page : ℕ) (c : Command) → 0 < length (cut_data c)
    → length (spelled page (command_tokens c)) ≡ rest_length page c + data_length (cut_data c)
