-- A message by its parts, and what can be spelled.
use Rattle.std.specs.Prelude.{ℕ, ◌≤◌, length, Bool, List, None, IfSome}
use Rattle.std.specs.List.{AllByRecursion}
use Rattle.dm_base.specs.Limits.{text_limit}
use Rattle.syncml_types.specs.declared.values.Meta.{Meta}
use Rattle.syncml_types.specs.declared.values.Item.{Item}
use Rattle.syncml_types.specs.declared.values.Header.{Header}
use Rattle.syncml_types.specs.declared.values.Cred.{Cred}
use Rattle.syncml_types.specs.declared.command.Member.{Member}
use Rattle.syncml_types.specs.declared.command.Member.TheVariants as member
use Rattle.syncml_types.specs.declared.command.SeqMember.{SeqMember}
use Rattle.syncml_types.specs.declared.command.SeqMember.TheVariants as seq_member
use Rattle.syncml_types.specs.declared.command.Command.{Command}
use Rattle.syncml_types.specs.declared.command.Command.TheVariants as command

-- meta information that tells nothing
abbrev pub no_meta : Meta
no_meta = record {
  format = None;
  media = None;
  size = None;
  next_nonce = None;
  max_msg = None;
  max_obj = None;
  mark = None;
  version = None;
}

pub record Parts : Type 0 where
  pub header : Header
  pub body : List Command
  pub last : Bool

-- Data within the limit
abbrev pub IsShortData : List ℕ → Type 0
IsShortData value = length value ≤ text_limit

abbrev pub HasShortData : Item → Type 0
HasShortData item = IfSome item.value IsShortData

abbrev pub HasShortMember : Member → Type 0
HasShortMember (member.One c) = AllByRecursion HasShortData c.items
HasShortMember (member.Alert c) = AllByRecursion HasShortData c.items

abbrev pub HasShortSeqMember : SeqMember → Type 0
HasShortSeqMember (seq_member.Single m) = HasShortMember m
HasShortSeqMember (seq_member.Atomic b) = AllByRecursion HasShortMember b.members

abbrev pub HasShortItems : Command → Type 0
HasShortItems (command.Plain c) = AllByRecursion HasShortData c.items
HasShortItems (command.Alert c) = AllByRecursion HasShortData c.items
HasShortItems (command.Atomic b) = AllByRecursion HasShortMember b.members
HasShortItems (command.Sequence b) = AllByRecursion HasShortSeqMember b.members
HasShortItems (command.Status c) = AllByRecursion HasShortData c.items
HasShortItems (command.Results c) = AllByRecursion HasShortData c.items

-- no Data is too long for a spelling
pub record FitsSpelling (h : Header) (commands : List Command) : Type 0 where
  pub cred : IfSome h.cred (λ (c : Cred). IsShortData c.value)
  pub body : AllByRecursion HasShortItems commands
