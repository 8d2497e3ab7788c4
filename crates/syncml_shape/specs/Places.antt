-- The places of children in the rows of their parent.
use Rattle.std.specs.Prelude.{◌≡◌, ℕ, ◌+◌, Bool, false, if◌then◌else◌, List, [], ◌∷◌, ◌++◌, length, Option, Some, None}
use Rattle.std.specs.Prelude.{is_some, IsTrue, ⊤}
use Rattle.wbxml_tables.specs.declared.Element.{Element}
use Rattle.wbxml_tables.specs.declared.Element.TheVariants.{EAdd, EAlert, EAtomic, EChal, ECopy, ECred, EDelete, EExec}
use Rattle.wbxml_tables.specs.declared.Element.TheVariants.{EGet, EItem, EReplace, EResults, ESequence, ESource}
use Rattle.wbxml_tables.specs.declared.Element.TheVariants.{EStatus, ESyncBody, ESyncHdr, ESyncML, ETarget}
use Rattle.syncml_shape.specs.declared.rows.ChildRow.{ChildRow}
use Rattle.syncml_shape.specs.Table as table
use Rattle.syncml_shape.specs.declared.place.ChildPlace.{ChildPlace}
use Rattle.syncml_shape.specs.Rows.{kind_in}

-- the rows of an element's children; elements that hold a text or a number, and Meta and MetInf, have none
abbrev pub rows_of : Element → List ChildRow
rows_of ESyncML = table.message
rows_of ESyncHdr = table.header_rows
rows_of ESyncBody = table.body_rows
rows_of EAdd = table.plain
rows_of ECopy = table.plain
rows_of EDelete = table.plain
rows_of EGet = table.plain
rows_of EReplace = table.plain
rows_of EExec = table.exec_rows
rows_of EAlert = table.alert_rows
rows_of EAtomic = table.atomic
rows_of ESequence = table.sequence
rows_of EStatus = table.status
rows_of EResults = table.results
rows_of EItem = table.item_rows
rows_of ETarget = table.loc_rows
rows_of ESource = table.loc_rows
rows_of ECred = table.cred
rows_of EChal = table.chal
rows_of other = []

abbrev pub names_child : ChildRow → Element → Bool
names_child row child = is_some (kind_in row.choice child)

-- the first row that names the child, where the rows count from an order on
abbrev pub place_in : ℕ → List ChildRow → Element → Option ChildPlace
place_in order [] child = None
place_in order (row ∷ rows) child =
    if names_child row child then Some (record { order = order; required = row.required; many = row.many })
    else place_in (order + 1) rows child

-- the place of a child in its parent, orders counted from 1
abbrev pub child_place : Element → Element → Option ChildPlace
child_place parent child = place_in 1 (rows_of parent) child

-- none of the rows names the child
abbrev pub NameNone : List ChildRow → Element → Type 0
NameNone [] child = ⊤
NameNone (row ∷ rows) child = (names_child row child ≡ false) × NameNone rows child

-- the first row that names the child has this place
pub record IsChildPlace (rows : List ChildRow) (child : Element) (place : ChildPlace) : Type 0 where
  pub before : List ChildRow
  pub row : ChildRow
  pub after : List ChildRow
  pub all : rows ≡ before ++ row ∷ after
  pub is_first : NameNone before child
  pub named : IsTrue (names_child row child)
  pub is : place ≡ record { order = length before + 1; required = row.required; many = row.many }
