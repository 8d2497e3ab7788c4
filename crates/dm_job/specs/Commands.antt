-- The commands that the lines of a job say. They have no CmdIDs yet.
use Rattle.std.specs.Prelude.{◌&&◌, ℕ, Bool, false, if◌then◌else◌, nat_lt, nat_le, List, [], ◌∷◌, ◌++◌, length, codes}
use Rattle.std.specs.Prelude.{Option, Some, None, option_map, option_and_then}
use Rattle.dm_base.specs.Limits.{object_limit}
use Rattle.dm_base.specs.Fields.{hex_of, is_short, is_word}
use Rattle.syncml_types.specs.declared.values.Meta.{Meta}
use Rattle.syncml_types.specs.declared.values.Item.{Item}
use Rattle.syncml_types.specs.declared.command.Verb.{Verb}
use Rattle.syncml_types.specs.declared.command.Verb.TheVariants as verb
use Rattle.syncml_types.specs.declared.command.Plain.{Plain}
use Rattle.syncml_types.specs.declared.command.Member.TheVariants as member
use Rattle.syncml_types.specs.declared.command.SeqMember.TheVariants as seq_member
use Rattle.syncml_types.specs.declared.command.Command.{Command}
use Rattle.syncml_types.specs.declared.command.Command.TheVariants as command
use Rattle.syncml_types.specs.Message.{no_meta}
use Rattle.dm_pack.specs.Entries.{bare_length}
use Rattle.dm_fields.specs.Fields.{begins_with, opt_of}

-- ---- one command on one node

-- Format and Type as far as they are given; no Meta where neither is
abbrev pub meta_of : Option (List ℕ) → Option (List ℕ) → Option Meta
meta_of None None = None
meta_of (Some format) media = Some (record no_meta { format = Some format; media = media })
meta_of None (Some media) = Some (record no_meta { media = Some media })

abbrev pub item_of : List ℕ → Option Meta → Option (List ℕ) → Item
item_of uri meta value = record {
  target = Some (record { uri = uri; name = None });
  source = None;
  meta = meta;
  value = value;
  more = false;
}

-- with one item, and a correlator where one is given
abbrev pub plain_of : Verb → Option (List ℕ) → Item → Plain
plain_of v correlator item =
    record { verb = v; id = 0; no_resp = false; meta = None; correlator = correlator; items = item ∷ [] }

-- `get WORD` and `delete WORD`
abbrev pub bare_in : Verb → List (List ℕ) → Option Plain
bare_in v (word ∷ uri ∷ []) = if is_word uri then Some (plain_of v None (item_of uri None None)) else None
bare_in v other = None

-- `exec WORD OPT`
abbrev pub exec_in : List (List ℕ) → Option Plain
exec_in (word ∷ uri ∷ correlator ∷ []) =
    if is_word uri && is_short correlator then Some (plain_of verb.Exec (opt_of correlator) (item_of uri None None))
    else None
exec_in other = None

abbrev pub within_object : List ℕ → Option (List ℕ)
within_object bytes = if nat_le (length bytes) object_limit then Some bytes else None

-- Data: at most 4,194,304 bytes, as HEX
abbrev pub hex_data_in : List ℕ → Option (List ℕ)
hex_data_in text = option_and_then within_object (hex_of text)

abbrev pub plain_written : Verb → List ℕ → List ℕ → List ℕ → List ℕ → Plain
plain_written v uri format media bytes = plain_of v None (item_of uri (meta_of (opt_of format) (opt_of media)) (Some bytes))

-- `add WORD FORMAT TYPE HEX` and `replace WORD FORMAT TYPE HEX`; FORMAT is an OPT, and TYPE a WORD, where `-` stands
-- for none
abbrev pub write_in : Verb → List (List ℕ) → Option Plain
write_in v (word ∷ uri ∷ format ∷ media ∷ bytes ∷ []) =
    if is_word uri && is_short format && is_word media then option_map (plain_written v uri format media) (hex_data_in bytes)
    else None
write_in v other = None

-- the verb that a line names
abbrev pub verb_in : List ℕ → Option Verb
verb_in line =
    if begins_with (codes "get") line then Some verb.Get
    else if begins_with (codes "delete") line then Some verb.Delete
    else if begins_with (codes "add") line then Some verb.Add
    else if begins_with (codes "replace") line then Some verb.Replace
    else if begins_with (codes "exec") line then Some verb.Exec
    else None

-- the command that the fields of such a line say
abbrev pub plain_in : Verb → List (List ℕ) → Option Plain
plain_in verb.Get fields = bare_in verb.Get fields
plain_in verb.Delete fields = bare_in verb.Delete fields
plain_in verb.Add fields = write_in verb.Add fields
plain_in verb.Replace fields = write_in verb.Replace fields
plain_in verb.Exec fields = exec_in fields
plain_in verb.Copy fields = None

-- ---- containers

abbrev pub new_atomic : Command
new_atomic = command.Atomic (record { id = 0; no_resp = false; meta = None; members = [] })

abbrev pub new_sequence : Command
new_sequence = command.Sequence (record { id = 0; no_resp = false; meta = None; members = [] })

-- a container with one member more
abbrev pub with_member : Command → Plain → Command
with_member (command.Atomic b) p = command.Atomic (record b { members = b.members ++ member.One p ∷ [] })
with_member (command.Sequence b) p =
    command.Sequence (record b { members = b.members ++ seq_member.Single (member.One p) ∷ [] })
with_member other p = other

abbrev pub member_count : Command → ℕ
member_count (command.Atomic b) = length b.members
member_count (command.Sequence b) = length b.members
member_count other = 0

-- it has members, and without the Data of the last one at most 1,000 bytes
abbrev pub may_close : Command → Bool
may_close c = nat_lt 0 (member_count c) && nat_le (bare_length c) 1000
