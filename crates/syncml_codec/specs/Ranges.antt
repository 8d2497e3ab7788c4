-- The ranges of a message's numbers: those of the types that hold them.
use Rattle.std.specs.Prelude.{◌<◌, ◌^◌, ℕ, IfSome}
use Rattle.std.specs.List.{AllByRecursion}
use Rattle.syncml_types.specs.declared.values.Meta.{Meta}
use Rattle.syncml_types.specs.declared.values.Item.{Item}
use Rattle.syncml_types.specs.declared.values.Cred.{Cred}
use Rattle.syncml_types.specs.declared.values.Header.{Header}
use Rattle.syncml_types.specs.declared.command.Plain.{Plain}
use Rattle.syncml_types.specs.declared.command.AlertCmd.{AlertCmd}
use Rattle.syncml_types.specs.declared.command.Member.{Member}
use Rattle.syncml_types.specs.declared.command.Member.TheVariants as member
use Rattle.syncml_types.specs.declared.command.Block.{Block}
use Rattle.syncml_types.specs.declared.command.SeqMember.{SeqMember}
use Rattle.syncml_types.specs.declared.command.SeqMember.TheVariants as seq_member
use Rattle.syncml_types.specs.declared.command.StatusCmd.{StatusCmd}
use Rattle.syncml_types.specs.declared.command.ResultsCmd.{ResultsCmd}
use Rattle.syncml_types.specs.declared.command.Command.{Command}
use Rattle.syncml_types.specs.declared.command.Command.TheVariants as command
use Rattle.syncml_types.specs.Message.{Parts}

-- a number of 32 bits, and one of 64
abbrev pub IsShortNumber : ℕ → Type 0
IsShortNumber n = n < 2 ^ 32

abbrev pub IsLongNumber : ℕ → Type 0
IsLongNumber n = n < 2 ^ 64

pub record MetaRange (meta : Meta) : Type 0 where
  pub size : IfSome meta.size IsLongNumber
  pub max_msg : IfSome meta.max_msg IsLongNumber
  pub max_obj : IfSome meta.max_obj IsLongNumber

abbrev pub ItemRange : Item → Type 0
ItemRange item = IfSome item.meta MetaRange

abbrev pub CredRange : Cred → Type 0
CredRange cred = IfSome cred.meta MetaRange

pub record HeaderRange (h : Header) : Type 0 where
  pub msg : IsShortNumber h.msg
  pub cred : IfSome h.cred CredRange
  pub meta : IfSome h.meta MetaRange

pub record PlainRange (c : Plain) : Type 0 where
  pub id : IsShortNumber c.id
  pub meta : IfSome c.meta MetaRange
  pub items : AllByRecursion ItemRange c.items

pub record AlertRange (c : AlertCmd) : Type 0 where
  pub id : IsShortNumber c.id
  pub code : IsShortNumber c.code
  pub items : AllByRecursion ItemRange c.items

abbrev pub MemberRange : Member → Type 0
MemberRange (member.One c) = PlainRange c
MemberRange (member.Alert c) = AlertRange c

pub record AtomicRange (b : Block Member) : Type 0 where
  pub id : IsShortNumber b.id
  pub meta : IfSome b.meta MetaRange
  pub members : AllByRecursion MemberRange b.members

abbrev pub SeqMemberRange : SeqMember → Type 0
SeqMemberRange (seq_member.Single m) = MemberRange m
SeqMemberRange (seq_member.Atomic b) = AtomicRange b

pub record SequenceRange (b : Block SeqMember) : Type 0 where
  pub id : IsShortNumber b.id
  pub meta : IfSome b.meta MetaRange
  pub members : AllByRecursion SeqMemberRange b.members

pub record StatusRange (c : StatusCmd) : Type 0 where
  pub id : IsShortNumber c.id
  pub msg_ref : IsShortNumber c.msg_ref
  pub cmd_ref : IsShortNumber c.cmd_ref
  pub code : IsShortNumber c.code
  pub chal : IfSome c.chal MetaRange
  pub items : AllByRecursion ItemRange c.items

pub record ResultsRange (c : ResultsCmd) : Type 0 where
  pub id : IsShortNumber c.id
  pub msg_ref : IfSome c.msg_ref IsShortNumber
  pub cmd_ref : IsShortNumber c.cmd_ref
  pub meta : IfSome c.meta MetaRange
  pub items : AllByRecursion ItemRange c.items

abbrev pub CommandRange : Command → Type 0
CommandRange (command.Plain c) = PlainRange c
CommandRange (command.Alert c) = AlertRange c
CommandRange (command.Atomic b) = AtomicRange b
CommandRange (command.Sequence b) = SequenceRange b
CommandRange (command.Status c) = StatusRange c
CommandRange (command.Results c) = ResultsRange c

-- each number is in the range of the type that holds it: 64 bits for sizes and limits, 32 for all others
pub record AreNumbers (parts : Parts) : Type 0 where
  pub header : HeaderRange parts.header
  pub body : AllByRecursion CommandRange parts.body
