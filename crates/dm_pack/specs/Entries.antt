-- Entries that wait to be sent, the parts in which they go out, and what is left of them then.
use Rattle.std.specs.Prelude.{◌≡◌, ◌-◌, ◌≤◌, ℕ, Bool, true, false, if◌then◌else◌, List, length, take, drop, Option}
use Rattle.std.specs.Prelude.{Some, None}
use Rattle.wbxml_tokens.specs.Spelling.{spelled}
use Rattle.syncml_types.specs.declared.values.Meta.{Meta}
use Rattle.syncml_types.specs.declared.values.Item.{Item}
use Rattle.syncml_types.specs.declared.command.Command.{Command}
use Rattle.syncml_types.specs.declared.command.Command.TheVariants as command
use Rattle.syncml_types.specs.Message.{no_meta}
use Rattle.syncml_types.specs.Canonical.{is_text, command_tokens}
use Rattle.syncml_types.specs.Fitness.{is_in_limit, command_texts, command_data, command_numbers, command_filled}
use Rattle.syncml_types.specs.Fitness.{command_correlates}
use Rattle.syncml_parts.specs.Numbering.{with_numbers}
use Rattle.syncml_parts.specs.Packing.{cut_changed, cut_data, bytes_in}

-- a command that waits, and whether a first part of it has gone out; it gets its CmdIDs when it goes out
pub record Entry : Type 0 where
  pub command : Command
  pub begun : Bool

abbrev pub whole_entry : Command → Entry
whole_entry c = record { command = c; begun = false }

-- how many bytes it has of the Data that may be cut
abbrev pub data_left : Entry → ℕ
data_left e = length (cut_data e.command)

-- ---- a part

abbrev pub with_size : ℕ → Option Meta → Option Meta
with_size size None = Some (record no_meta { size = Some size })
with_size size (Some meta) = Some (record meta { size = Some size })

-- Size, the length of the whole Data, stands in the first part alone
abbrev pub part_meta : Bool → Item → Option Meta
part_meta begun i = if begun then i.meta else with_size (length (bytes_in i.value)) i.meta

-- MoreData stands in every part but the last, which is the rest
abbrev pub part_item : Bool → ℕ → Item → Item
part_item begun n i = record i { meta = part_meta begun i; value = Some (take n (bytes_in i.value)); more = true }

-- the part that holds the next n bytes
unfoldable pub part_of : Entry → ℕ → Command
part_of e n = cut_changed (part_item e.begun n) e.command

-- ---- what is left then

abbrev pub rest_item : ℕ → Item → Item
rest_item n i = record i { value = Some (drop n (bytes_in i.value)) }

abbrev pub last_only : {A : Type 0} → List A → List A
last_only xs = drop (length xs - 1) xs

-- of a container the last member alone
abbrev pub last_alone : Command → Command
last_alone (command.Plain c) = command.Plain c
last_alone (command.Alert c) = command.Alert c
last_alone (command.Atomic b) = command.Atomic (record b { members = last_only b.members })
last_alone (command.Sequence b) = command.Sequence (record b { members = last_only b.members })
last_alone (command.Status c) = command.Status c
last_alone (command.Results c) = command.Results c

unfoldable pub rest_of : Entry → ℕ → Entry
rest_of e n = record { command = last_alone (cut_changed (rest_item n) e.command); begun = true }

-- ---- which entries can be sent

-- what a message asks of a command, CmdIDs and length aside
pub record IsFitCommand (c : Command) : Type 0 where
  pub texts : command_texts is_text c ≡ true
  pub numbers : command_numbers (with_numbers 1 c) ≡ true
  pub filled : command_filled c ≡ true
  pub correlators : command_correlates c ≡ true
  pub short_texts : command_texts is_in_limit c ≡ true
  pub short_data : command_data is_in_limit c ≡ true

abbrev pub without_value : Item → Item
without_value i = record i { value = None }

-- how long a command is without the Data that may be cut, from page 0 on and with CmdIDs of ten digits
abbrev pub bare_length : Command → ℕ
bare_length c = length (spelled 0 (command_tokens (with_numbers 1000000000 (cut_changed without_value c))))

-- in bytes
abbrev pub entry_limit : Command → ℕ
entry_limit (command.Atomic b) = 1000
entry_limit (command.Sequence b) = 1000
entry_limit other = 700

pub record IsReady (e : Entry) : Type 0 where
  pub fit : IsFitCommand e.command
  pub short : bare_length e.command ≤ entry_limit e.command
