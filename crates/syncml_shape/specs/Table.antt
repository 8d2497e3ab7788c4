-- The grammar of elements, written out: the children of each element in the order in which they stand, how many of
-- each, and what each holds there. The names are those of SyncML 1.2; choice, number and order of the children are this
-- profile's. It is written beside the rows of the code, which a law holds to it.
use Rattle.std.specs.Prelude.{◌≡◌, true, false, List, [], ◌∷◌}
use Rattle.wbxml_tables.specs.declared.Element.{Element}
use Rattle.wbxml_tables.specs.declared.Element.TheVariants.{EChal, ECmd, ECmdID, ECmdRef, ECorrelator, ECred, EData}
use Rattle.wbxml_tables.specs.declared.Element.TheVariants.{EFinal, EFormat, EItem, ELocName, ELocURI, EMark}
use Rattle.wbxml_tables.specs.declared.Element.TheVariants.{EMaxMsgSize, EMaxObjSize, EMeta, EMoreData, EMsgID, EMsgRef}
use Rattle.wbxml_tables.specs.declared.Element.TheVariants.{ENextNonce, ENoResp, ERespURI, ESessionID, ESize, ESource}
use Rattle.wbxml_tables.specs.declared.Element.TheVariants.{ESourceRef, ESyncBody, ESyncHdr, ESyncML, ETarget}
use Rattle.wbxml_tables.specs.declared.Element.TheVariants.{ETargetRef, EType, EVerDTD, EVerProto, EVersion}
use Rattle.syncml_shape.specs.declared.rows.Kind.{Kind}
use Rattle.syncml_shape.specs.declared.rows.Kind.TheVariants as a
use Rattle.syncml_shape.specs.declared.rows.Choice.{Choice}
use Rattle.syncml_shape.specs.declared.rows.Choice.TheVariants.{One, Commands, AtomicMembers, SequenceMembers}
use Rattle.syncml_shape.specs.declared.rows.ChildRow.{ChildRow}
use Rattle.syncml_shape.specs.declared.rows.MetaRow.{MetaRow}
use Rattle.syncml_shape.specs.declared.rows.TheConstants as code

-- `e` in a grammar: exactly once
abbrev pub once : Element → Kind → ChildRow
once e kind = record { choice = One e kind; required = true; many = false }

-- `e?`: at most once
abbrev pub maybe : Element → Kind → ChildRow
maybe e kind = record { choice = One e kind; required = false; many = false }

-- `e*`: any number
abbrev pub any : Element → Kind → ChildRow
any e kind = record { choice = One e kind; required = false; many = true }

-- `e+`: at least once
abbrev pub some : Element → Kind → ChildRow
some e kind = record { choice = One e kind; required = true; many = true }

-- `(..)*`: any number, each any of these
abbrev pub any_of : Choice → ChildRow
any_of choice = record { choice = choice; required = false; many = true }

-- `(..)+`: at least one, each any of these
abbrev pub some_of : Choice → ChildRow
some_of choice = record { choice = choice; required = true; many = true }

-- ---- the children of each element

-- a document
abbrev pub document : List ChildRow
document = once ESyncML a.Message ∷ []

-- SyncML
abbrev pub message : List ChildRow
message = once ESyncHdr a.Header ∷ once ESyncBody a.Body ∷ []

-- SyncHdr
abbrev pub header_rows : List ChildRow
header_rows =
    once EVerDTD a.Text
    ∷ once EVerProto a.Text
    ∷ once ESessionID a.Text
    ∷ once EMsgID a.Id
    ∷ once ETarget a.Loc
    ∷ once ESource a.Loc
    ∷ maybe ERespURI a.Text
    ∷ maybe ENoResp a.Flag
    ∷ maybe ECred a.Cred
    ∷ maybe EMeta a.Meta
    ∷ []

-- SyncBody
abbrev pub body_rows : List ChildRow
body_rows = any_of Commands ∷ maybe EFinal a.Flag ∷ []

-- Add, Copy, Delete, Get, Replace
abbrev pub plain : List ChildRow
plain = once ECmdID a.Id ∷ maybe ENoResp a.Flag ∷ maybe EMeta a.Meta ∷ some EItem a.Item ∷ []

-- Exec
abbrev pub exec_rows : List ChildRow
exec_rows = once ECmdID a.Id ∷ maybe ENoResp a.Flag ∷ maybe EMeta a.Meta ∷ maybe ECorrelator a.Text ∷ once EItem a.Item ∷ []

-- Alert
abbrev pub alert_rows : List ChildRow
alert_rows = once ECmdID a.Id ∷ maybe ENoResp a.Flag ∷ once EData a.Code ∷ maybe ECorrelator a.Text ∷ any EItem a.Item ∷ []

-- Atomic
abbrev pub atomic : List ChildRow
atomic = once ECmdID a.Id ∷ maybe ENoResp a.Flag ∷ maybe EMeta a.Meta ∷ some_of AtomicMembers ∷ []

-- Sequence
abbrev pub sequence : List ChildRow
sequence = once ECmdID a.Id ∷ maybe ENoResp a.Flag ∷ maybe EMeta a.Meta ∷ some_of SequenceMembers ∷ []

-- Status
abbrev pub status : List ChildRow
status =
    once ECmdID a.Id
    ∷ once EMsgRef a.Id
    ∷ once ECmdRef a.Code
    ∷ once ECmd a.Text
    ∷ any ETargetRef a.Text
    ∷ any ESourceRef a.Text
    ∷ maybe EChal a.Chal
    ∷ once EData a.Code
    ∷ any EItem a.Item
    ∷ []

-- Results
abbrev pub results : List ChildRow
results =
    once ECmdID a.Id
    ∷ maybe EMsgRef a.Id
    ∷ once ECmdRef a.Code
    ∷ maybe EMeta a.Meta
    ∷ maybe ETargetRef a.Text
    ∷ maybe ESourceRef a.Text
    ∷ some EItem a.Item
    ∷ []

-- Item
abbrev pub item_rows : List ChildRow
item_rows =
    maybe ETarget a.Loc
    ∷ maybe ESource a.Loc
    ∷ maybe EMeta a.Meta
    ∷ maybe EData a.Bytes
    ∷ maybe EMoreData a.Flag
    ∷ []

-- Target, Source
abbrev pub loc_rows : List ChildRow
loc_rows = once ELocURI a.Text ∷ maybe ELocName a.Text ∷ []

-- Cred
abbrev pub cred : List ChildRow
cred = maybe EMeta a.Meta ∷ once EData a.Bytes ∷ []

-- Chal
abbrev pub chal : List ChildRow
chal = once EMeta a.Meta ∷ []

abbrev pub in_meta : Element → Kind → MetaRow
in_meta e kind = record { element = e; kind = kind }

-- Meta, or the one MetInf in it: in any order, each at most once
abbrev pub meta : List MetaRow
meta =
    in_meta EFormat a.Text
    ∷ in_meta EType a.Text
    ∷ in_meta ESize a.Size
    ∷ in_meta ENextNonce a.Text
    ∷ in_meta EMaxMsgSize a.Size
    ∷ in_meta EMaxObjSize a.Size
    ∷ in_meta EMark a.Text
    ∷ in_meta EVersion a.Text
    ∷ []

-- The rows that the code goes by are these: the same children in the same order, as often, and with the same in them.
pub record RowsAreTable : Type 0 where
  pub of_document : code.DOCUMENT ≡ document
  pub of_message : code.MESSAGE ≡ message
  pub of_header : code.HEADER ≡ header_rows
  pub of_body : code.BODY ≡ body_rows
  pub of_plain : code.PLAIN ≡ plain
  pub of_exec : code.EXEC ≡ exec_rows
  pub of_alert : code.ALERT ≡ alert_rows
  pub of_atomic : code.ATOMIC ≡ atomic
  pub of_sequence : code.SEQUENCE ≡ sequence
  pub of_status : code.STATUS ≡ status
  pub of_results : code.RESULTS ≡ results
  pub of_item : code.ITEM ≡ item_rows
  pub of_loc : code.LOC ≡ loc_rows
  pub of_cred : code.CRED ≡ cred
  pub of_chal : code.CHAL ≡ chal
  pub of_meta : code.META ≡ meta
