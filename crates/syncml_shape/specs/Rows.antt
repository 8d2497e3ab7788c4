-- The children of each element: what the rows of the table mean.
use Rattle.std.specs.Prelude.{ℕ, ◌+◌, Bool, true, false, not, ◌&&◌, ◌||◌, if◌then◌else◌, List, [], ◌∷◌, Option, Some}
use Rattle.std.specs.Prelude.{None, set}
use denote.Enum.Bare.{sameb}
use Rattle.wbxml_tables.specs.contracts.Element.{the_type}
use Rattle.wbxml_tables.specs.declared.Element.{Element}
use Rattle.wbxml_tables.specs.declared.Element.TheVariants.{EAdd, EAlert, EAtomic, ECopy, EDelete, EExec, EGet, EMetInf}
use Rattle.wbxml_tables.specs.declared.Element.TheVariants.{EReplace, EResults, ESequence, EStatus}
use Rattle.syncml_shape.specs.declared.rows.Kind.{Kind}
use Rattle.syncml_shape.specs.declared.rows.Kind.TheVariants as kinds
use Rattle.syncml_shape.specs.declared.rows.Choice.{Choice}
use Rattle.syncml_shape.specs.declared.rows.Choice.TheVariants.{One, Commands, AtomicMembers, SequenceMembers}
use Rattle.syncml_shape.specs.declared.rows.ChildRow.{ChildRow}
use Rattle.syncml_shape.specs.declared.rows.MetaRow.{MetaRow}
use Rattle.syncml_shape.specs.Table as table

abbrev pub same : Element → Element → Bool
same a b = sameb the_type a b

-- what a member of an Atomic holds
abbrev pub atomic_member : Element → Option Kind
atomic_member EAdd = Some kinds.Plain
atomic_member EAlert = Some kinds.Alert
atomic_member ECopy = Some kinds.Plain
atomic_member EDelete = Some kinds.Plain
atomic_member EExec = Some kinds.Exec
atomic_member EGet = Some kinds.Plain
atomic_member EReplace = Some kinds.Plain
atomic_member other = None

-- what a member of a Sequence holds
abbrev pub sequence_member : Element → Option Kind
sequence_member EAtomic = Some kinds.Atomic
sequence_member other = atomic_member other

-- what a command of a body holds
abbrev pub command : Element → Option Kind
command EResults = Some kinds.Results
command ESequence = Some kinds.Sequence
command EStatus = Some kinds.Status
command other = sequence_member other

-- what the element holds where a row allows it there
abbrev pub kind_in : Choice → Element → Option Kind
kind_in (One element kind) e = if same element e then Some kind else None
kind_in Commands e = command e
kind_in AtomicMembers e = atomic_member e
kind_in SequenceMembers e = sequence_member e

-- What may still come in an open element.
pub data Content : Type 0 where
  -- the rows from that of the last child on, and whether a child of the first of them has come
  in_order : Bool → List ChildRow → Content
  -- of a Meta: whether one MetInf may still stand for the rest, and of each row whether its child has come
  in_any_order : Bool → List Bool → Content
  -- pieces of text
  pieces : Content

-- none of the children of a Meta has come
abbrev pub none_came : List Bool
none_came = false ∷ false ∷ false ∷ false ∷ false ∷ false ∷ false ∷ false ∷ []

-- what may come in an element that has just begun
abbrev pub start : Kind → Content
start kinds.Message = in_order false table.message
start kinds.Header = in_order false table.header_rows
start kinds.Body = in_order false table.body_rows
start kinds.Plain = in_order false table.plain
start kinds.Exec = in_order false table.exec_rows
start kinds.Alert = in_order false table.alert_rows
start kinds.Atomic = in_order false table.atomic
start kinds.Sequence = in_order false table.sequence
start kinds.Status = in_order false table.status
start kinds.Results = in_order false table.results
start kinds.Item = in_order false table.item_rows
start kinds.Loc = in_order false table.loc_rows
start kinds.Cred = in_order false table.cred
start kinds.Chal = in_order false table.chal
start kinds.Meta = in_any_order true none_came
start kinds.MetInf = in_any_order false none_came
start kinds.Text = pieces
start kinds.Bytes = pieces
start kinds.Id = pieces
start kinds.Code = pieces
start kinds.Size = pieces
start kinds.Flag = in_order false []

-- what may come in a document
abbrev pub document : Content
document = in_order false table.document

-- A child that the first row has or hasn't: what it holds and the rows from its row on, or what the later rows say.
-- A row of which no child has come must not be passed over where it is required.
abbrev pub in_row : Option Kind → Bool → ChildRow → List ChildRow → Option (Kind × List ChildRow) → Option (Kind × List ChildRow)
in_row (Some kind) came row rows later = if came && not row.many then None else Some (kind, row ∷ rows)
in_row None came row rows later = if not came && row.required then None else later

abbrev pub next_row : Bool → List ChildRow → Element → Option (Kind × List ChildRow)
next_row came [] e = None
next_row came (row ∷ rows) e = in_row (kind_in row.choice e) came row rows (next_row false rows e)

abbrev pub after_row : Option (Kind × List ChildRow) → Option (Kind × Content)
after_row None = None
after_row (Some x) = Some (x.0, in_order true x.1)

-- the first row from a place on that has the element: what it holds and the row's place, where it has not come
abbrev pub meta_place : ℕ → List MetaRow → List Bool → Element → Option (Kind × ℕ)
meta_place at [] came e = None
meta_place at (row ∷ rows) [] e = None
meta_place at (row ∷ rows) (c ∷ came) e =
    if same row.element e then (if c then None else Some (row.kind, at)) else meta_place (at + 1) rows came e

abbrev pub after_meta : List Bool → Option (Kind × ℕ) → Option (Kind × Content)
after_meta came None = None
after_meta came (Some x) = Some (x.0, in_any_order false (set came x.1 true))

-- what the child that comes next holds, and what may come behind it; None where it may not come
abbrev pub next_child : Content → Element → Option (Kind × Content)
next_child (in_order came rows) e = after_row (next_row came rows e)
next_child (in_any_order wrap came) e =
    if wrap && same e EMetInf then Some (kinds.MetInf, in_order false [])
    else after_meta came (meta_place 0 table.meta came e)
next_child pieces e = None

abbrev pub all_optional : List ChildRow → Bool
all_optional [] = true
all_optional (row ∷ rows) = not row.required && all_optional rows

-- whether the element may end
abbrev pub is_complete : Content → Bool
is_complete (in_order came []) = true
is_complete (in_order came (row ∷ rows)) = (came || not row.required) && all_optional rows
is_complete (in_any_order wrap came) = true
is_complete pieces = true

abbrev pub takes_text : Content → Bool
takes_text (in_order came rows) = false
takes_text (in_any_order wrap came) = false
takes_text pieces = true
