-- What fits an element, said of the list of its children.
use Rattle.std.specs.Prelude.{◌≡◌, ◌<◌, ◌≤◌, Bool, true, false, if◌then◌else◌, List, [], ◌∷◌, ◌++◌, length, Option}
use Rattle.std.specs.Prelude.{Some, None, IsTrue, ⊤}
use Rattle.wbxml_tables.specs.declared.Element.{Element}
use Rattle.wbxml_tables.specs.declared.Element.TheVariants.{EMetInf}
use Rattle.syncml_shape.specs.declared.rows.Kind.{Kind}
use Rattle.syncml_shape.specs.declared.rows.Kind.TheVariants as kinds
use Rattle.syncml_shape.specs.declared.rows.Choice.{Choice}
use Rattle.syncml_shape.specs.declared.rows.ChildRow.{ChildRow}
use Rattle.syncml_shape.specs.declared.rows.MetaRow.{MetaRow}
use Rattle.syncml_shape.specs.Table as table
use Rattle.syncml_shape.specs.Forest.{Forest, nothing, text, opaque, bare, full}
use Rattle.syncml_shape.specs.Rows.{same, kind_in, start}
use Rattle.syncml_shape.specs.Shape.{fits}

-- a child and what stands in it
pub record Child : Type 0 where
  pub element : Element
  pub inner : Forest

abbrev pub children_in : Forest → List Child
children_in nothing = []
children_in (text bytes rest) = children_in rest
children_in (opaque bytes rest) = children_in rest
children_in (bare e rest) = record { element = e; inner = nothing } ∷ children_in rest
children_in (full e inner rest) = record { element = e; inner = inner } ∷ children_in rest

abbrev pub has_text : Forest → Bool
has_text nothing = false
has_text (text bytes rest) = true
has_text (opaque bytes rest) = true
has_text (bare e rest) = has_text rest
has_text (full e inner rest) = has_text rest

-- the child is allowed there, and what stands in it fits what it holds there
abbrev pub FitsChoice : Choice → Child → Type 0
FitsChoice choice child = (kind : Kind) × (kind_in choice child.element ≡ Some kind) × IsTrue (fits (start kind) child.inner)

abbrev pub AllOf : Choice → List Child → Type 0
AllOf choice [] = ⊤
AllOf choice (child ∷ rest) = FitsChoice choice child × AllOf choice rest

-- at least one where the row is required, and at most one where it hasn't many
pub record IsInNumber (row : ChildRow) (here : List Child) : Type 0 where
  pub enough : row.required ≡ true → 0 < length here
  pub single : row.many ≡ false → length here ≤ 1

-- the children are those of the rows one after the other, of each row as many as it has
abbrev pub FollowRows : List ChildRow → List Child → Type 0
FollowRows [] all = all ≡ []
FollowRows (row ∷ rows) all =
    (here : List Child) × (rest : List Child)
    × (all ≡ here ++ rest) × AllOf row.choice here × IsInNumber row here × FollowRows rows rest

-- what a child of a Meta holds
abbrev pub meta_kind : List MetaRow → Element → Option Kind
meta_kind [] e = None
meta_kind (row ∷ rows) e = if same row.element e then Some row.kind else meta_kind rows e

-- the child is one of a Meta's, and what stands in it fits what it holds
abbrev pub IsOfMeta : Child → Type 0
IsOfMeta child =
    (kind : Kind) × (meta_kind table.meta child.element ≡ Some kind) × IsTrue (fits (start kind) child.inner)

abbrev pub AllOfMeta : List Child → Type 0
AllOfMeta [] = ⊤
AllOfMeta (child ∷ rest) = IsOfMeta child × AllOfMeta rest

abbrev pub AllOther : Element → List Child → Type 0
AllOther e [] = ⊤
AllOther e (child ∷ rest) = (child.element ≡ e → ⊥) × AllOther e rest

-- no two children are of one element
abbrev pub AreUnlike : List Child → Type 0
AreUnlike [] = ⊤
AreUnlike (child ∷ rest) = AllOther child.element rest × AreUnlike rest

abbrev pub as_child : Element → Forest → Child
as_child e inner = record { element = e; inner = inner }

-- the one child is a MetInf, and what stands in it fits it
abbrev pub IsWrapped : Forest → Type 0
IsWrapped tree =
    (inner : Forest) × (has_text tree ≡ false) × (children_in tree ≡ as_child EMetInf inner ∷ [])
    × IsTrue (fits (start kinds.MetInf) inner)
