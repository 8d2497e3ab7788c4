-- What a child with children puts into its parent. Where its parent has no such child, it puts nothing.
use Rattle.std.specs.Prelude.{Bool, true, false, List, [], ◌∷◌, ◌++◌, Option, Some, None}
use Rattle.wbxml_tables.specs.declared.Element.{Element}
use Rattle.wbxml_tables.specs.declared.Element.TheVariants.{ETarget}
use Rattle.syncml_types.specs.declared.values.Loc.{Loc}
use Rattle.syncml_types.specs.declared.values.Meta.{Meta}
use Rattle.syncml_types.specs.declared.values.Item.{Item}
use Rattle.syncml_types.specs.declared.values.Cred.{Cred}
use Rattle.syncml_types.specs.declared.values.Header.{Header}
use Rattle.syncml_types.specs.declared.command.Plain.{Plain}
use Rattle.syncml_types.specs.declared.command.AlertCmd.{AlertCmd}
use Rattle.syncml_types.specs.declared.command.Member.{Member}
use Rattle.syncml_types.specs.declared.command.Member.TheVariants as member
use Rattle.syncml_types.specs.declared.command.Block.{Block}
use Rattle.syncml_types.specs.declared.command.SeqMember.{SeqMember}
use Rattle.syncml_types.specs.declared.command.SeqMember.TheVariants as seq_member
use Rattle.syncml_types.specs.declared.command.StatusCmd.{StatusCmd}
use Rattle.syncml_types.specs.declared.command.ResultsCmd.{ResultsCmd}
use Rattle.syncml_types.specs.declared.command.Command.{Command}
use Rattle.syncml_types.specs.declared.command.Command.TheVariants as command
use Rattle.syncml_grammar.specs.declared.draft.MessageDraft.{MessageDraft}
use Rattle.syncml_grammar.specs.declared.draft.Draft.{Draft}
use Rattle.syncml_grammar.specs.declared.draft.Draft.TheVariants as draft

abbrev pub as_command : Draft → Option Command
as_command (draft.Plain c) = Some (command.Plain c)
as_command (draft.Alert c) = Some (command.Alert c)
as_command (draft.Atomic b) = Some (command.Atomic b)
as_command (draft.Sequence b) = Some (command.Sequence b)
as_command (draft.Status c) = Some (command.Status c)
as_command (draft.Results c) = Some (command.Results c)
as_command other = None

abbrev pub as_member : Draft → Option Member
as_member (draft.Plain c) = Some (member.One c)
as_member (draft.Alert c) = Some (member.Alert c)
as_member other = None

abbrev pub as_single : Option Member → Option SeqMember
as_single None = None
as_single (Some m) = Some (seq_member.Single m)

abbrev pub as_seq_member : Draft → Option SeqMember
as_seq_member (draft.Atomic b) = Some (seq_member.Atomic b)
as_seq_member other = as_single (as_member other)

-- a list with one more, where there is one
abbrev pub and_one : {A : Type 0} → List A → Option A → List A
and_one xs None = xs
and_one xs (Some x) = xs ++ x ∷ []

abbrev pub message_with : MessageDraft → Draft → MessageDraft
message_with m (draft.Header h) = record m { header = Some h }
message_with m (draft.Body b) = record m { body = b.commands; last = b.last }
message_with m other = m

abbrev pub header_with_loc : Header → Element → Loc → Header
header_with_loc h ETarget loc = record h { target = loc }
header_with_loc h other loc = record h { source = loc }

abbrev pub header_with : Header → Element → Draft → Header
header_with h e (draft.Loc loc) = header_with_loc h e loc
header_with h e (draft.Cred cred) = record h { cred = Some cred }
header_with h e (draft.Meta meta) = record h { meta = Some meta }
header_with h e other = h

abbrev pub plain_with : Plain → Draft → Plain
plain_with c (draft.Meta meta) = record c { meta = Some meta }
plain_with c (draft.Item item) = record c { items = c.items ++ item ∷ [] }
plain_with c other = c

abbrev pub alert_with : AlertCmd → Draft → AlertCmd
alert_with c (draft.Item item) = record c { items = c.items ++ item ∷ [] }
alert_with c other = c

abbrev pub block_with : {M : Type 0} → (Draft → Option M) → Block M → Draft → Block M
block_with one b (draft.Meta meta) = record b { meta = Some meta }
block_with one b other = record b { members = and_one b.members (one other) }

abbrev pub status_with : StatusCmd → Draft → StatusCmd
status_with c (draft.Chal meta) = record c { chal = Some meta }
status_with c (draft.Item item) = record c { items = c.items ++ item ∷ [] }
status_with c other = c

abbrev pub results_with : ResultsCmd → Draft → ResultsCmd
results_with c (draft.Meta meta) = record c { meta = Some meta }
results_with c (draft.Item item) = record c { items = c.items ++ item ∷ [] }
results_with c other = c

abbrev pub item_with_loc : Item → Element → Loc → Item
item_with_loc item ETarget loc = record item { target = Some loc }
item_with_loc item other loc = record item { source = Some loc }

abbrev pub item_with : Item → Element → Draft → Item
item_with item e (draft.Loc loc) = item_with_loc item e loc
item_with item e (draft.Meta meta) = record item { meta = Some meta }
item_with item e other = item

abbrev pub cred_with : Cred → Draft → Cred
cred_with cred (draft.Meta meta) = record cred { meta = Some meta }
cred_with cred other = cred

-- the Meta of a Chal, or the MetInf of a Meta, stands for the whole
abbrev pub meta_with : Meta → Draft → Meta
meta_with old (draft.Meta meta) = meta
meta_with old other = old

abbrev pub with_inner : Draft → Element → Draft → Draft
with_inner draft.Document e child = child
with_inner (draft.Message m) e child = draft.Message (message_with m child)
with_inner (draft.Header h) e child = draft.Header (header_with h e child)
with_inner (draft.Body b) e child = draft.Body (record b { commands = and_one b.commands (as_command child) })
with_inner (draft.Plain c) e child = draft.Plain (plain_with c child)
with_inner (draft.Alert c) e child = draft.Alert (alert_with c child)
with_inner (draft.Atomic b) e child = draft.Atomic (block_with as_member b child)
with_inner (draft.Sequence b) e child = draft.Sequence (block_with as_seq_member b child)
with_inner (draft.Status c) e child = draft.Status (status_with c child)
with_inner (draft.Results c) e child = draft.Results (results_with c child)
with_inner (draft.Item item) e child = draft.Item (item_with item e child)
with_inner (draft.Loc loc) e child = draft.Loc loc
with_inner (draft.Cred cred) e child = draft.Cred (cred_with cred child)
with_inner (draft.Chal meta) e child = draft.Chal (meta_with meta child)
with_inner (draft.Meta meta) e child = draft.Meta (meta_with meta child)

abbrev pub is_document : Draft → Bool
is_document draft.Document = true
is_document other = false
