-- Which messages are fit to be spelled, and the first reason why one isn't.
use Rattle.std.specs.Prelude.{◌≡◌, ◌==◌, ◌&&◌, ◌||◌, ℕ, Bool, true, false, not, if◌then◌else◌, nat_lt, nat_le, List}
use Rattle.std.specs.Prelude.{length, Option, Some, None, Result, Ok, Err}
use Rattle.std.specs.List.{list_all}
use Rattle.std.specs.Option.{is_none}
use Rattle.dm_base.specs.Limits.{message_limit, text_limit}
use Rattle.syncml_types.specs.declared.values.Loc.{Loc}
use Rattle.syncml_types.specs.declared.values.Meta.{Meta}
use Rattle.syncml_types.specs.declared.values.Item.{Item}
use Rattle.syncml_types.specs.declared.values.Cred.{Cred}
use Rattle.syncml_types.specs.declared.values.Header.{Header}
use Rattle.syncml_types.specs.declared.command.Plain.{Plain}
use Rattle.syncml_types.specs.declared.command.AlertCmd.{AlertCmd}
use Rattle.syncml_types.specs.declared.command.Member.{Member}
use Rattle.syncml_types.specs.declared.command.Member.TheVariants as member
use Rattle.syncml_types.specs.declared.command.Block.{Block}
use Rattle.syncml_types.specs.declared.command.SeqMember.{SeqMember}
use Rattle.syncml_types.specs.declared.command.SeqMember.TheVariants as seq_member
use Rattle.syncml_types.specs.declared.command.StatusCmd.{StatusCmd}
use Rattle.syncml_types.specs.declared.command.ResultsCmd.{ResultsCmd}
use Rattle.syncml_types.specs.declared.command.Command.{Command}
use Rattle.syncml_types.specs.declared.command.Command.TheVariants as command
use Rattle.syncml_types.specs.declared.message.Unfit.{Unfit}
use Rattle.syncml_types.specs.declared.message.Unfit.TheVariants as unfit
use Rattle.syncml_types.specs.Message.{Parts}
use Rattle.syncml_types.specs.Verbs.{is_exec}
use Rattle.syncml_types.specs.Canonical.{canonical, is_text}

-- what holds of a value where there is one
abbrev pub all_of : {A : Type 0} → (A → Bool) → Option A → Bool
all_of test None = true
all_of test (Some x) = test x

-- ---- the texts of a message, all but its Data: whether each of them passes a test

unfoldable pub loc_texts : (List ℕ → Bool) → Loc → Bool
loc_texts test loc = test loc.uri && all_of test loc.name

unfoldable pub meta_texts : (List ℕ → Bool) → Meta → Bool
meta_texts test meta =
    all_of test meta.format
    && all_of test meta.media
    && all_of test meta.next_nonce
    && all_of test meta.mark
    && all_of test meta.version

unfoldable pub item_texts : (List ℕ → Bool) → Item → Bool
item_texts test item =
    all_of (loc_texts test) item.target && all_of (loc_texts test) item.source && all_of (meta_texts test) item.meta

unfoldable pub cred_texts : (List ℕ → Bool) → Cred → Bool
cred_texts test cred = all_of (meta_texts test) cred.meta

unfoldable pub header_texts : (List ℕ → Bool) → Header → Bool
header_texts test h =
    test h.dtd
    && test h.proto
    && test h.session
    && loc_texts test h.target
    && loc_texts test h.source
    && all_of test h.resp_uri
    && all_of (cred_texts test) h.cred
    && all_of (meta_texts test) h.meta

unfoldable pub plain_texts : (List ℕ → Bool) → Plain → Bool
plain_texts test c = all_of (meta_texts test) c.meta && all_of test c.correlator && list_all (item_texts test) c.items

unfoldable pub alert_texts : (List ℕ → Bool) → AlertCmd → Bool
alert_texts test c = all_of test c.correlator && list_all (item_texts test) c.items

unfoldable pub member_texts : (List ℕ → Bool) → Member → Bool
member_texts test (member.One c) = plain_texts test c
member_texts test (member.Alert c) = alert_texts test c

unfoldable pub atomic_texts : (List ℕ → Bool) → Block Member → Bool
atomic_texts test b = all_of (meta_texts test) b.meta && list_all (member_texts test) b.members

unfoldable pub seq_member_texts : (List ℕ → Bool) → SeqMember → Bool
seq_member_texts test (seq_member.Single m) = member_texts test m
seq_member_texts test (seq_member.Atomic b) = atomic_texts test b

unfoldable pub sequence_texts : (List ℕ → Bool) → Block SeqMember → Bool
sequence_texts test b = all_of (meta_texts test) b.meta && list_all (seq_member_texts test) b.members

unfoldable pub status_texts : (List ℕ → Bool) → StatusCmd → Bool
status_texts test c =
    test c.cmd
    && list_all test c.target_refs
    && list_all test c.source_refs
    && all_of (meta_texts test) c.chal
    && list_all (item_texts test) c.items

unfoldable pub results_texts : (List ℕ → Bool) → ResultsCmd → Bool
results_texts test c =
    all_of (meta_texts test) c.meta
    && all_of test c.target_ref
    && all_of test c.source_ref
    && list_all (item_texts test) c.items

unfoldable pub command_texts : (List ℕ → Bool) → Command → Bool
command_texts test (command.Plain c) = plain_texts test c
command_texts test (command.Alert c) = alert_texts test c
command_texts test (command.Atomic b) = atomic_texts test b
command_texts test (command.Sequence b) = sequence_texts test b
command_texts test (command.Status c) = status_texts test c
command_texts test (command.Results c) = results_texts test c

abbrev pub message_texts : (List ℕ → Bool) → Header → List Command → Bool
message_texts test h body = header_texts test h && list_all (command_texts test) body

-- ---- its Data: whether each passes a test

unfoldable pub item_data : (List ℕ → Bool) → Item → Bool
item_data test item = all_of test item.value

unfoldable pub header_data : (List ℕ → Bool) → Header → Bool
header_data test h = all_of (λ (c : Cred). test c.value) h.cred

unfoldable pub member_data : (List ℕ → Bool) → Member → Bool
member_data test (member.One c) = list_all (item_data test) c.items
member_data test (member.Alert c) = list_all (item_data test) c.items

unfoldable pub seq_member_data : (List ℕ → Bool) → SeqMember → Bool
seq_member_data test (seq_member.Single m) = member_data test m
seq_member_data test (seq_member.Atomic b) = list_all (member_data test) b.members

unfoldable pub command_data : (List ℕ → Bool) → Command → Bool
command_data test (command.Plain c) = list_all (item_data test) c.items
command_data test (command.Alert c) = list_all (item_data test) c.items
command_data test (command.Atomic b) = list_all (member_data test) b.members
command_data test (command.Sequence b) = list_all (seq_member_data test) b.members
command_data test (command.Status c) = list_all (item_data test) c.items
command_data test (command.Results c) = list_all (item_data test) c.items

abbrev pub message_data : (List ℕ → Bool) → Header → List Command → Bool
message_data test h body = header_data test h && list_all (command_data test) body

-- ---- its numbers: whether each CmdID, MsgID and MsgRef is 1 or more

abbrev pub is_number : ℕ → Bool
is_number n = not (n == 0)

unfoldable pub member_numbers : Member → Bool
member_numbers (member.One c) = is_number c.id
member_numbers (member.Alert c) = is_number c.id

unfoldable pub atomic_numbers : Block Member → Bool
atomic_numbers b = is_number b.id && list_all member_numbers b.members

unfoldable pub seq_member_numbers : SeqMember → Bool
seq_member_numbers (seq_member.Single m) = member_numbers m
seq_member_numbers (seq_member.Atomic b) = atomic_numbers b

unfoldable pub command_numbers : Command → Bool
command_numbers (command.Plain c) = is_number c.id
command_numbers (command.Alert c) = is_number c.id
command_numbers (command.Atomic b) = atomic_numbers b
command_numbers (command.Sequence b) = is_number b.id && list_all seq_member_numbers b.members
command_numbers (command.Status c) = is_number c.id && is_number c.msg_ref
command_numbers (command.Results c) = is_number c.id && all_of is_number c.msg_ref

abbrev pub message_numbers : Header → List Command → Bool
message_numbers h body = is_number h.msg && list_all command_numbers body

-- ---- its lists: whether each that the profile wants filled is

abbrev pub is_filled : {A : Type 0} → List A → Bool
is_filled xs = not (length xs == 0)

-- an Exec has one item, any other command of these one or more
unfoldable pub plain_filled : Plain → Bool
plain_filled c = if is_exec c.verb then length c.items == 1 else is_filled c.items

unfoldable pub member_filled : Member → Bool
member_filled (member.One c) = plain_filled c
member_filled (member.Alert c) = true

unfoldable pub atomic_filled : Block Member → Bool
atomic_filled b = is_filled b.members && list_all member_filled b.members

unfoldable pub seq_member_filled : SeqMember → Bool
seq_member_filled (seq_member.Single m) = member_filled m
seq_member_filled (seq_member.Atomic b) = atomic_filled b

unfoldable pub command_filled : Command → Bool
command_filled (command.Plain c) = plain_filled c
command_filled (command.Alert c) = true
command_filled (command.Atomic b) = atomic_filled b
command_filled (command.Sequence b) = is_filled b.members && list_all seq_member_filled b.members
command_filled (command.Status c) = true
command_filled (command.Results c) = is_filled c.items

-- ---- its correlators: whether an Exec alone has one, Alerts aside

unfoldable pub plain_correlates : Plain → Bool
plain_correlates c = is_exec c.verb || is_none c.correlator

unfoldable pub member_correlates : Member → Bool
member_correlates (member.One c) = plain_correlates c
member_correlates (member.Alert c) = true

unfoldable pub seq_member_correlates : SeqMember → Bool
seq_member_correlates (seq_member.Single m) = member_correlates m
seq_member_correlates (seq_member.Atomic b) = list_all member_correlates b.members

unfoldable pub command_correlates : Command → Bool
command_correlates (command.Plain c) = plain_correlates c
command_correlates (command.Alert c) = true
command_correlates (command.Atomic b) = list_all member_correlates b.members
command_correlates (command.Sequence b) = list_all seq_member_correlates b.members
command_correlates (command.Status c) = true
command_correlates (command.Results c) = true

-- ---- the message

-- within the limit of texts and Data
abbrev pub is_in_limit : List ℕ → Bool
is_in_limit bytes = nat_le (length bytes) text_limit

pub record IsFit (h : Header) (body : List Command) : Type 0 where
  pub texts : message_texts is_text h body ≡ true
  pub numbers : message_numbers h body ≡ true
  pub filled : list_all command_filled body ≡ true
  pub correlators : list_all command_correlates body ≡ true
  pub short_texts : message_texts is_in_limit h body ≡ true
  pub short_data : message_data is_in_limit h body ≡ true

-- the first reason, in this order, why parts make no message
unfoldable pub first_unfit : Parts → Option Unfit
first_unfit m =
    if not (message_texts is_text m.header m.body) then Some unfit.BadText
    else if not (message_numbers m.header m.body) then Some unfit.BadNumber
    else if not (list_all command_filled m.body) then Some unfit.NoItems
    else if not (list_all command_correlates m.body) then Some unfit.BadCorrelator
    else if nat_lt message_limit (length (canonical m)) then Some unfit.TooLong
    else None

abbrev pub told_unfit : {A : Type 0} → Result A Unfit → Option Unfit
told_unfit (Ok m) = None
told_unfit (Err e) = Some e
