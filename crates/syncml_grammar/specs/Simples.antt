-- What a child without children puts into its parent. Where its parent has no such child, it puts nothing.
use Rattle.std.specs.Prelude.{ℕ, true, List, [], ◌∷◌, ◌++◌, Some}
use Rattle.wbxml_tables.specs.declared.Element.{Element}
use Rattle.wbxml_tables.specs.declared.Element.TheVariants.{ECmd, ECmdID, ECmdRef, EData, EFormat, ELocName, ELocURI}
use Rattle.wbxml_tables.specs.declared.Element.TheVariants.{EMark, EMaxMsgSize, EMsgRef, ENextNonce, ERespURI}
use Rattle.wbxml_tables.specs.declared.Element.TheVariants.{ESessionID, ESize, ESourceRef, ETargetRef, EType, EVerDTD}
use Rattle.wbxml_tables.specs.declared.Element.TheVariants.{EVerProto, EVersion}
use Rattle.syncml_types.specs.declared.values.Loc.{Loc}
use Rattle.syncml_types.specs.declared.values.Meta.{Meta}
use Rattle.syncml_types.specs.declared.values.Header.{Header}
use Rattle.syncml_types.specs.declared.command.AlertCmd.{AlertCmd}
use Rattle.syncml_types.specs.declared.command.StatusCmd.{StatusCmd}
use Rattle.syncml_types.specs.declared.command.ResultsCmd.{ResultsCmd}
use Rattle.syncml_grammar.specs.declared.leaf.Simple.{Simple}
use Rattle.syncml_grammar.specs.declared.leaf.Simple.TheVariants as simple
use Rattle.syncml_grammar.specs.declared.draft.Draft.{Draft}
use Rattle.syncml_grammar.specs.declared.draft.Draft.TheVariants as draft

-- ---- texts, and Data

abbrev pub loc_with_text : Loc → Element → List ℕ → Loc
loc_with_text loc ELocURI text = record loc { uri = text }
loc_with_text loc ELocName text = record loc { name = Some text }
loc_with_text loc other text = loc

abbrev pub meta_with_text : Meta → Element → List ℕ → Meta
meta_with_text meta EFormat text = record meta { format = Some text }
meta_with_text meta EType text = record meta { media = Some text }
meta_with_text meta ENextNonce text = record meta { next_nonce = Some text }
meta_with_text meta EMark text = record meta { mark = Some text }
meta_with_text meta EVersion text = record meta { version = Some text }
meta_with_text meta other text = meta

abbrev pub header_with_text : Header → Element → List ℕ → Header
header_with_text h EVerDTD text = record h { dtd = text }
header_with_text h EVerProto text = record h { proto = text }
header_with_text h ESessionID text = record h { session = text }
header_with_text h ERespURI text = record h { resp_uri = Some text }
header_with_text h other text = h

abbrev pub status_with_text : StatusCmd → Element → List ℕ → StatusCmd
status_with_text c ECmd text = record c { cmd = text }
status_with_text c ETargetRef text = record c { target_refs = c.target_refs ++ text ∷ [] }
status_with_text c ESourceRef text = record c { source_refs = c.source_refs ++ text ∷ [] }
status_with_text c other text = c

abbrev pub results_with_text : ResultsCmd → Element → List ℕ → ResultsCmd
results_with_text c ETargetRef text = record c { target_ref = Some text }
results_with_text c ESourceRef text = record c { source_ref = Some text }
results_with_text c other text = c

-- an Item and a Cred have Data alone, a command with items and an Alert a Correlator alone
abbrev pub with_text : Draft → Element → List ℕ → Draft
with_text (draft.Loc loc) e text = draft.Loc (loc_with_text loc e text)
with_text (draft.Meta meta) e text = draft.Meta (meta_with_text meta e text)
with_text (draft.Header h) e text = draft.Header (header_with_text h e text)
with_text (draft.Status c) e text = draft.Status (status_with_text c e text)
with_text (draft.Results c) e text = draft.Results (results_with_text c e text)
with_text (draft.Item item) e text = draft.Item (record item { value = Some text })
with_text (draft.Cred cred) e text = draft.Cred (record cred { value = text })
with_text (draft.Plain c) e text = draft.Plain (record c { correlator = Some text })
with_text (draft.Alert c) e text = draft.Alert (record c { correlator = Some text })
with_text other e text = other

-- ---- numbers

abbrev pub alert_with_number : AlertCmd → Element → ℕ → AlertCmd
alert_with_number c EData n = record c { code = n }
alert_with_number c other n = record c { id = n }

abbrev pub status_with_number : StatusCmd → Element → ℕ → StatusCmd
status_with_number c ECmdID n = record c { id = n }
status_with_number c EMsgRef n = record c { msg_ref = n }
status_with_number c ECmdRef n = record c { cmd_ref = n }
status_with_number c other n = record c { code = n }

abbrev pub results_with_number : ResultsCmd → Element → ℕ → ResultsCmd
results_with_number c ECmdID n = record c { id = n }
results_with_number c EMsgRef n = record c { msg_ref = Some n }
results_with_number c other n = record c { cmd_ref = n }

-- a header has a MsgID alone; a command with items and a container a CmdID alone
abbrev pub with_short : Draft → Element → ℕ → Draft
with_short (draft.Header h) e n = draft.Header (record h { msg = n })
with_short (draft.Plain c) e n = draft.Plain (record c { id = n })
with_short (draft.Alert c) e n = draft.Alert (alert_with_number c e n)
with_short (draft.Atomic b) e n = draft.Atomic (record b { id = n })
with_short (draft.Sequence b) e n = draft.Sequence (record b { id = n })
with_short (draft.Status c) e n = draft.Status (status_with_number c e n)
with_short (draft.Results c) e n = draft.Results (results_with_number c e n)
with_short other e n = other

abbrev pub meta_with_size : Meta → Element → ℕ → Meta
meta_with_size meta ESize n = record meta { size = Some n }
meta_with_size meta EMaxMsgSize n = record meta { max_msg = Some n }
meta_with_size meta other n = record meta { max_obj = Some n }

abbrev pub with_long : Draft → Element → ℕ → Draft
with_long (draft.Meta meta) e n = draft.Meta (meta_with_size meta e n)
with_long other e n = other

-- ---- flags: Final of a body, MoreData of an Item, and NoResp

abbrev pub with_flag : Draft → Draft
with_flag (draft.Body b) = draft.Body (record b { last = true })
with_flag (draft.Item item) = draft.Item (record item { more = true })
with_flag (draft.Header h) = draft.Header (record h { no_resp = true })
with_flag (draft.Plain c) = draft.Plain (record c { no_resp = true })
with_flag (draft.Alert c) = draft.Alert (record c { no_resp = true })
with_flag (draft.Atomic b) = draft.Atomic (record b { no_resp = true })
with_flag (draft.Sequence b) = draft.Sequence (record b { no_resp = true })
with_flag other = other

abbrev pub with_simple : Draft → Element → Simple → Draft
with_simple d e (simple.Text text) = with_text d e text
with_simple d e (simple.Short n) = with_short d e n
with_simple d e (simple.Long n) = with_long d e n
with_simple d e simple.Flag = with_flag d
