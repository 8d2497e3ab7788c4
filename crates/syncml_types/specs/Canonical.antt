-- The canonical spelling of a message: its tokens, by cases on its fields, and their bytes. Children stand in the order
-- of the profile's table of elements.
use Rattle.std.specs.Prelude.{◌&&◌, ◌==◌, ℕ, Bool, true, false, not, if◌then◌else◌, List, [], ◌∷◌, ◌++◌, length, Option}
use Rattle.std.specs.Prelude.{Some, None}
use Rattle.std.specs.List.{flat_map, list_all}
use Rattle.std.specs.Option.{is_none}
use Rattle.std.specs.Fmt.{decimal}
use Rattle.std.specs.Str.{is_utf8}
use Rattle.wbxml_tables.specs.declared.Element.{Element}
use Rattle.wbxml_tables.specs.declared.Element.TheVariants.{EAdd, EAlert, EAtomic, EChal, ECmd, ECmdID, ECmdRef, ECopy}
use Rattle.wbxml_tables.specs.declared.Element.TheVariants.{ECred, EData, EDelete, EExec, EFinal, EGet, EItem, ELocName}
use Rattle.wbxml_tables.specs.declared.Element.TheVariants.{ELocURI, EMeta, EMsgID, EMsgRef, ENoResp, EReplace}
use Rattle.wbxml_tables.specs.declared.Element.TheVariants.{ERespURI, EResults, ESequence, ESessionID, ESource}
use Rattle.wbxml_tables.specs.declared.Element.TheVariants.{ESourceRef, EStatus, ESyncBody, ESyncHdr, ESyncML, ETarget}
use Rattle.wbxml_tables.specs.declared.Element.TheVariants.{ETargetRef, EVerDTD, EVerProto, EMoreData, ECorrelator}
use Rattle.wbxml_tables.specs.declared.Element.TheVariants.{EFormat, EMark, EMaxMsgSize, ENextNonce, ESize, EType}
use Rattle.wbxml_tables.specs.declared.Element.TheVariants.{EVersion, EMaxObjSize}
use Rattle.wbxml_tokens.specs.declared.token.Token.{Token}
use Rattle.wbxml_tokens.specs.declared.token.Token.TheVariants.{Tag, End, Text, Opaque}
use Rattle.wbxml_tokens.specs.Spelling.{spelled, prologue}
use Rattle.syncml_types.specs.declared.values.Loc.{Loc}
use Rattle.syncml_types.specs.declared.values.Meta.{Meta}
use Rattle.syncml_types.specs.declared.values.Item.{Item}
use Rattle.syncml_types.specs.declared.values.Cred.{Cred}
use Rattle.syncml_types.specs.declared.values.Header.{Header}
use Rattle.syncml_types.specs.declared.command.Verb.{Verb}
use Rattle.syncml_types.specs.declared.command.Verb.TheVariants as verb
use Rattle.syncml_types.specs.declared.command.Plain.{Plain}
use Rattle.syncml_types.specs.declared.command.AlertCmd.{AlertCmd}
use Rattle.syncml_types.specs.declared.command.Member.{Member}
use Rattle.syncml_types.specs.declared.command.Member.TheVariants as member
use Rattle.syncml_types.specs.declared.command.Block.{Block}
use Rattle.syncml_types.specs.declared.command.SeqMember.{SeqMember}
use Rattle.syncml_types.specs.declared.command.SeqMember.TheVariants as seq_member
use Rattle.syncml_types.specs.declared.command.StatusCmd.{StatusCmd}
use Rattle.syncml_types.specs.declared.command.ResultsCmd.{ResultsCmd}
use Rattle.syncml_types.specs.declared.command.Command.{Command}
use Rattle.syncml_types.specs.declared.command.Command.TheVariants as command
use Rattle.syncml_types.specs.Message.{Parts}

-- ---- elements

-- an element that always has children
abbrev pub parent_tokens : Element → List Token → List Token
parent_tokens e children = Tag e true ∷ children ++ End ∷ []

-- an element that may have no children, and is its tag alone then
abbrev pub element_tokens : Element → List Token → List Token
element_tokens e [] = Tag e false ∷ []
element_tokens e (t ∷ ts) = parent_tokens e (t ∷ ts)

unfoldable pub text_tokens : Element → List ℕ → List Token
text_tokens e [] = Tag e false ∷ []
text_tokens e (b ∷ bs) = Tag e true ∷ Text (b ∷ bs) ∷ End ∷ []

-- UTF-8 without byte 00
abbrev pub is_text : List ℕ → Bool
is_text bytes = is_utf8 bytes && list_all (λ b. not (b == 0)) bytes

-- Data is spelled as a text where it is one
abbrev pub data_piece : List ℕ → Token
data_piece bytes = if is_text bytes then Text bytes else Opaque bytes

unfoldable pub data_tokens : List ℕ → List Token
data_tokens [] = Tag EData false ∷ []
data_tokens (b ∷ bs) = Tag EData true ∷ data_piece (b ∷ bs) ∷ End ∷ []

unfoldable pub number_tokens : Element → ℕ → List Token
number_tokens e n = text_tokens e (decimal n)

unfoldable pub flag_tokens : Element → Bool → List Token
flag_tokens e flag = if flag then Tag e false ∷ [] else []

-- what may be absent
abbrev pub optional : {A : Type 0} → (A → List Token) → Option A → List Token
optional tokens None = []
optional tokens (Some x) = tokens x

-- ---- values

unfoldable pub loc_tokens : Element → Loc → List Token
loc_tokens e loc = parent_tokens e (text_tokens ELocURI loc.uri ++ optional (text_tokens ELocName) loc.name)

abbrev pub meta_children : Meta → List Token
meta_children meta =
    optional (text_tokens EFormat) meta.format
    ++ optional (text_tokens EType) meta.media
    ++ optional (number_tokens ESize) meta.size
    ++ optional (text_tokens ENextNonce) meta.next_nonce
    ++ optional (number_tokens EMaxMsgSize) meta.max_msg
    ++ optional (number_tokens EMaxObjSize) meta.max_obj
    ++ optional (text_tokens EMark) meta.mark
    ++ optional (text_tokens EVersion) meta.version

-- whether a Meta has no children
abbrev pub is_empty_meta : Meta → Bool
is_empty_meta meta =
    is_none meta.format && is_none meta.media && is_none meta.size && is_none meta.next_nonce
    && is_none meta.max_msg && is_none meta.max_obj && is_none meta.mark && is_none meta.version

unfoldable pub meta_tokens : Meta → List Token
meta_tokens meta = element_tokens EMeta (meta_children meta)

abbrev pub item_children : Item → List Token
item_children item =
    optional (loc_tokens ETarget) item.target
    ++ optional (loc_tokens ESource) item.source
    ++ optional meta_tokens item.meta
    ++ optional data_tokens item.value
    ++ flag_tokens EMoreData item.more

-- whether an item has no children
abbrev pub is_empty_item : Item → Bool
is_empty_item item =
    is_none item.target && is_none item.source && is_none item.meta && is_none item.value && not item.more

unfoldable pub item_tokens : Item → List Token
item_tokens item = element_tokens EItem (item_children item)

unfoldable pub items_tokens : List Item → List Token
items_tokens items = flat_map item_tokens items

unfoldable pub texts_tokens : Element → List (List ℕ) → List Token
texts_tokens e texts = flat_map (text_tokens e) texts

unfoldable pub cred_tokens : Cred → List Token
cred_tokens cred = parent_tokens ECred (optional meta_tokens cred.meta ++ data_tokens cred.value)

unfoldable pub chal_tokens : Meta → List Token
chal_tokens chal = parent_tokens EChal (meta_tokens chal)

unfoldable pub header_tokens : Header → List Token
header_tokens h =
    parent_tokens ESyncHdr
    (text_tokens EVerDTD h.dtd
    ++ text_tokens EVerProto h.proto
    ++ text_tokens ESessionID h.session
    ++ number_tokens EMsgID h.msg
    ++ loc_tokens ETarget h.target
    ++ loc_tokens ESource h.source
    ++ optional (text_tokens ERespURI) h.resp_uri
    ++ flag_tokens ENoResp h.no_resp
    ++ optional cred_tokens h.cred
    ++ optional meta_tokens h.meta)

-- ---- commands

abbrev pub verb_element : Verb → Element
verb_element verb.Add = EAdd
verb_element verb.Copy = ECopy
verb_element verb.Delete = EDelete
verb_element verb.Exec = EExec
verb_element verb.Get = EGet
verb_element verb.Replace = EReplace

unfoldable pub plain_tokens : Plain → List Token
plain_tokens c =
    parent_tokens (verb_element c.verb)
    (number_tokens ECmdID c.id
    ++ flag_tokens ENoResp c.no_resp
    ++ optional meta_tokens c.meta
    ++ optional (text_tokens ECorrelator) c.correlator
    ++ items_tokens c.items)

unfoldable pub alert_tokens : AlertCmd → List Token
alert_tokens c =
    parent_tokens EAlert
    (number_tokens ECmdID c.id
    ++ flag_tokens ENoResp c.no_resp
    ++ number_tokens EData c.code
    ++ optional (text_tokens ECorrelator) c.correlator
    ++ items_tokens c.items)

unfoldable pub member_tokens : Member → List Token
member_tokens (member.One c) = plain_tokens c
member_tokens (member.Alert c) = alert_tokens c

unfoldable pub members_tokens : List Member → List Token
members_tokens ms = flat_map member_tokens ms

-- a container with the tokens of its members
abbrev pub block_tokens : {M : Type 0} → Element → Block M → List Token → List Token
block_tokens e b members =
    parent_tokens e
    (number_tokens ECmdID b.id ++ flag_tokens ENoResp b.no_resp ++ optional meta_tokens b.meta ++ members)

unfoldable pub atomic_tokens : Block Member → List Token
atomic_tokens b = block_tokens EAtomic b (members_tokens b.members)

unfoldable pub seq_member_tokens : SeqMember → List Token
seq_member_tokens (seq_member.Single m) = member_tokens m
seq_member_tokens (seq_member.Atomic b) = atomic_tokens b

unfoldable pub seq_members_tokens : List SeqMember → List Token
seq_members_tokens ms = flat_map seq_member_tokens ms

unfoldable pub sequence_tokens : Block SeqMember → List Token
sequence_tokens b = block_tokens ESequence b (seq_members_tokens b.members)

unfoldable pub status_tokens : StatusCmd → List Token
status_tokens c =
    parent_tokens EStatus
    (number_tokens ECmdID c.id
    ++ number_tokens EMsgRef c.msg_ref
    ++ number_tokens ECmdRef c.cmd_ref
    ++ text_tokens ECmd c.cmd
    ++ texts_tokens ETargetRef c.target_refs
    ++ texts_tokens ESourceRef c.source_refs
    ++ optional chal_tokens c.chal
    ++ number_tokens EData c.code
    ++ items_tokens c.items)

unfoldable pub results_tokens : ResultsCmd → List Token
results_tokens c =
    parent_tokens EResults
    (number_tokens ECmdID c.id
    ++ optional (number_tokens EMsgRef) c.msg_ref
    ++ number_tokens ECmdRef c.cmd_ref
    ++ optional meta_tokens c.meta
    ++ optional (text_tokens ETargetRef) c.target_ref
    ++ optional (text_tokens ESourceRef) c.source_ref
    ++ items_tokens c.items)

unfoldable pub command_tokens : Command → List Token
command_tokens (command.Plain c) = plain_tokens c
command_tokens (command.Alert c) = alert_tokens c
command_tokens (command.Atomic b) = atomic_tokens b
command_tokens (command.Sequence b) = sequence_tokens b
command_tokens (command.Status c) = status_tokens c
command_tokens (command.Results c) = results_tokens c

unfoldable pub commands_tokens : List Command → List Token
commands_tokens cs = flat_map command_tokens cs

-- ---- messages

abbrev pub body_children : List Command → Bool → List Token
body_children body last = commands_tokens body ++ flag_tokens EFinal last

-- whether a body has no children
abbrev pub is_empty_body : List Command → Bool → Bool
is_empty_body body last = length body == 0 && not last

unfoldable pub body_tokens : List Command → Bool → List Token
body_tokens body last = element_tokens ESyncBody (body_children body last)

unfoldable pub message_tokens : Parts → List Token
message_tokens m = parent_tokens ESyncML (header_tokens m.header ++ body_tokens m.body m.last)

-- the canonical spelling
unfoldable pub canonical : Parts → List ℕ
canonical m = prologue ++ spelled 0 (message_tokens m)

-- ---- how it is given

-- a container up to its first member
abbrev pub block_head : {M : Type 0} → Element → ℕ → Block M → List Token
block_head e id b =
    Tag e true ∷ number_tokens ECmdID id ++ flag_tokens ENoResp b.no_resp ++ optional meta_tokens b.meta
