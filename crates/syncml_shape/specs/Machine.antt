-- The open elements of an outline, and what a token does to them.
use Rattle.std.specs.Prelude.{Bool, true, false, if◌then◌else◌, List, [], ◌∷◌, Option, Some, None, Result, Ok, Err}
use Rattle.wbxml_tokens.specs.declared.reason.Reason.{Reason}
use Rattle.wbxml_tokens.specs.declared.reason.Reason.TheVariants.{Misplaced}
use Rattle.wbxml_tables.specs.declared.Element.{Element}
use Rattle.wbxml_tokens.specs.declared.token.Token.{Token}
use Rattle.wbxml_tokens.specs.declared.token.Token.TheVariants.{Tag, End, Text, Opaque}
use Rattle.syncml_shape.specs.declared.rows.Kind.{Kind}
use Rattle.syncml_shape.specs.Rows.{Content, document, start, next_child, is_complete, takes_text}
use Rattle.syncml_shape.specs.Faults.{tag_fault}

-- an open element and what may still come in it; the document has no element
pub record Frame : Type 0 where
  pub element : Option Element
  pub content : Content

abbrev pub root : Frame
root = record { element = None; content = document }

abbrev pub began : Element → Kind → Frame
began e kind = record { element = Some e; content = start kind }

-- a child that its parent has next
abbrev pub with_child : Frame → List Frame → Element → Bool → Kind × Content → Result (List Frame) Reason
with_child top below e true x = Ok (began e x.0 ∷ record top { content = x.1 } ∷ below)
with_child top below e false x =
    if is_complete (start x.0) then Ok (record top { content = x.1 } ∷ below) else Err Misplaced

abbrev pub with_tag : Frame → List Frame → Element → Bool → Option Reason → Option (Kind × Content)
    → Result (List Frame) Reason
with_tag top below e content (Some reason) x = Err reason
with_tag top below e content None None = Err Misplaced
with_tag top below e content None (Some x) = with_child top below e content x

abbrev pub with_end : Frame → List Frame → Result (List Frame) Reason
with_end top [] = Err Misplaced
with_end top (parent ∷ below) = if is_complete top.content then Ok (parent ∷ below) else Err Misplaced

abbrev pub with_text : Frame → List Frame → Result (List Frame) Reason
with_text top below = if takes_text top.content then Ok (top ∷ below) else Err Misplaced

-- a tag that isn't refused for its name
abbrev pub with_known_tag : List Frame → Element → Bool → Result (List Frame) Reason
with_known_tag [] e content = Err Misplaced
with_known_tag (top ∷ below) e content = with_tag top below e content None (next_child top.content e)

-- the open elements behind one more token, the innermost first, or why it is refused
abbrev pub step : List Frame → Token → Result (List Frame) Reason
step [] token = Err Misplaced
step (top ∷ below) (Tag e content) = with_tag top below e content (tag_fault top.element e) (next_child top.content e)
step (top ∷ below) End = with_end top below
step (top ∷ below) (Text bytes) = with_text top below
step (top ∷ below) (Opaque bytes) = with_text top below

-- whether the document may end here
abbrev pub may_end : List Frame → Bool
may_end [] = false
may_end (top ∷ []) = is_complete top.content
may_end (top ∷ parent ∷ below) = false
