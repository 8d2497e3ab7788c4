-- What outlines, steps, documents and their trees have to do with each other.
use Rattle.std.specs.Prelude.{◌≡◌, ◌↔◌, ◌⊎◌, false, List, [], ◌∷◌, ◌++◌, Bool, Some, IsTrue}
use Rattle.wbxml_tokens.specs.declared.reason.Reason.{Reason}
use Rattle.wbxml_tables.specs.declared.Element.{Element}
use Rattle.wbxml_tokens.specs.declared.token.Token.{Token}
use Rattle.wbxml_tokens.specs.declared.token.Token.TheVariants.{Tag, End}
use Rattle.syncml_shape.specs.declared.rows.Kind.{Kind}
use Rattle.syncml_shape.specs.declared.rows.Kind.TheVariants as kinds
use Rattle.syncml_shape.specs.Table as table
use Rattle.syncml_shape.specs.declared.rows.ChildRow.{ChildRow}
use Rattle.syncml_shape.specs.declared.outline.ShapeVerdict.{ShapeVerdict}
use Rattle.syncml_shape.specs.Forest.{Forest, spelling}
use Rattle.syncml_shape.specs.Rows.{Content, document, in_order, start}
use Rattle.syncml_shape.specs.Shape.{fits, HasShape, IsViable}
use Rattle.syncml_shape.specs.Children.{children_in, has_text, FollowRows, AllOfMeta, AreUnlike, IsWrapped}
use Rattle.syncml_shape.specs.Faults.{tag_fault, innermost, open_elements}
use Rattle.syncml_shape.specs.Steps.{Open, steps, Closes}
use Rattle.syncml_shape.specs.Machine.{Frame}
use Rattle.syncml_shape.specs.Outline.{HasTaken, Judges, verdict_of}

-- tokens spell one tree at most
abbrev pub OneTree : Type 0
OneTree = (tokens : List Token) (a b : Forest) → HasShape tokens a → HasShape tokens b → a ≡ b

-- what fits an element with rows is children that follow the rows, without text between them
abbrev pub FitsInOrder : Type 0
FitsInOrder =
    (kind : Kind) (rows : List ChildRow) (tree : Forest) → start kind ≡ in_order false rows
    → IsTrue (fits (start kind) tree) ↔ ((has_text tree ≡ false) × FollowRows rows (children_in tree))

-- so it is of a document, which is one SyncML
abbrev pub DocumentInOrder : Type 0
DocumentInOrder =
    (tree : Forest) → IsTrue (fits document tree)
    ↔ ((has_text tree ≡ false) × FollowRows table.document (children_in tree))

-- what fits a MetInf is children of a Meta, in any order, no two of one element
abbrev pub FitsInAnyOrder : Type 0
FitsInAnyOrder =
    (tree : Forest) → IsTrue (fits (start kinds.MetInf) tree)
    ↔ ((has_text tree ≡ false) × AllOfMeta (children_in tree) × AreUnlike (children_in tree))

-- what fits a Meta is what fits a MetInf, or one MetInf that holds it
abbrev pub FitsMeta : Type 0
FitsMeta =
    (tree : Forest) → IsTrue (fits (start kinds.Meta) tree) ↔ (IsTrue (fits (start kinds.MetInf) tree) ⊎ IsWrapped tree)

-- no document has a tag that is refused for its name and its parent's
abbrev pub FaultsHaveNoShape : Type 0
FaultsHaveNoShape =
    (before : List Token) (e : Element) (content : Bool) (reason : Reason)
    → tag_fault (innermost (open_elements before)) e ≡ Some reason → IsViable (before ++ Tag e content ∷ []) → ⊥

-- a tree that fits an open element is stepped over, with the END behind it, and ends that element
abbrev pub FitsIsStepped : Type 0
FitsIsStepped =
    (tree : Forest) (content : Content) (below : Open) (tokens : List Token)
    → IsTrue (fits content tree) → steps (content ∷ below) (spelling tree ++ End ∷ tokens) ≡ steps below tokens

-- steps that end all that is open are over trees that fit
abbrev pub ClosingIsFit : Type 0
ClosingIsFit = (tokens : List Token) (s : Open) → steps s tokens ≡ Some [] → Closes s tokens

-- tokens begin a document exactly where the steps over them leave something open
abbrev pub ViableIsOpen : Type 0
ViableIsOpen =
    (tokens : List Token)
    → IsViable tokens ↔ ((c : Content) × (s : Open) × (steps (document ∷ []) tokens ≡ Some (c ∷ s)))

-- tokens begin a document exactly where an outline takes them all
abbrev pub ViableIsTaken : Type 0
ViableIsTaken = (tokens : List Token) → IsViable tokens ↔ ((frames : List Frame) × HasTaken frames tokens)

-- of each list of tokens exactly one thing is judged, and it is the computed one
abbrev pub JudgedIsComputed : Type 0
JudgedIsComputed = (tokens : List Token) (verdict : ShapeVerdict) → Judges tokens verdict ↔ (verdict_of tokens ≡ verdict)
