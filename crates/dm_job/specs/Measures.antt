-- What is measured where a container ends.
use Rattle.std.specs.Prelude.{◌≡◌, ◌≤◌, ◌+◌, true, List, ℕ, Option, IfSome, option_and_then, ⊤, Ok}
use Rattle.syncml_types.specs.declared.values.Item.{Item}
use Rattle.syncml_types.specs.declared.command.Command.{Command}
use Rattle.syncml_types.specs.Fitness.{is_in_limit, command_data}
use Rattle.syncml_parts.specs.Numbering.{ids_in}
use Rattle.dm_job.specs.Commands.{member_count}
use Rattle.dm_job.specs.declared.job.JobEntry.{JobEntry}
use Rattle.dm_job.specs.declared.draft.Reading.{Reading}
use Rattle.dm_job.specs.declared.draft.Reading.TheVariants as reading
use Rattle.dm_job.specs.Reading.{last_entry, reading_after_all}

abbrev pub item_value : Item → Option (List ℕ)
item_value i = i.value

-- the Data of an item, where there is one
abbrev pub value_in : Option Item → Option (List ℕ)
value_in o = option_and_then item_value o

abbrev pub with_data : Option (List ℕ) → Item → Item
with_data value i = record i { value = value }

-- no Data is too long for a spelling, and no member has members
pub record CanBeMeasured (c : Command) : Type 0 where
  pub short : command_data is_in_limit c ≡ true
  pub flat : ids_in c ≤ 1 + member_count c

-- the last command can be measured
abbrev pub CanClose : List (List JobEntry) → Type 0
CanClose ps = IfSome (last_entry ps) (λ e. CanBeMeasured e.command)

abbrev pub CanGoOn : Reading → Type 0
CanGoOn reading.First = ⊤
CanGoOn reading.Server = ⊤
CanGoOn (reading.Limits account) = ⊤
CanGoOn (reading.Commands d) = CanClose d.job.packages

-- some lines lead here from the first on
pub record LinesLeadTo (r : Reading) : Type 0 where
  pub lines : List (List ℕ)
  pub taken : reading_after_all 1 reading.First lines ≡ Ok r

-- what holds of a reader, wherever it has come to
pub record IsUnderWay (r : Reading) : Type 0 where
  pub can_go_on : CanGoOn r
  pub reached : LinesLeadTo r
