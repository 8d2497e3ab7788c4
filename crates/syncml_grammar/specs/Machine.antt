-- The open elements of a message with what they hold, and what a token does to them.
use Rattle.std.specs.Prelude.{Bool, true, false, if◌then◌else◌, ℕ, List, [], ◌∷◌, Option, Some, None, Result, Ok, Err}
use Rattle.wbxml_tables.specs.declared.Element.{Element}
use Rattle.wbxml_tokens.specs.declared.reason.Reason.{Reason}
use Rattle.wbxml_tokens.specs.declared.reason.Reason.TheVariants.{Misplaced}
use Rattle.wbxml_tokens.specs.declared.token.Token.{Token}
use Rattle.wbxml_tokens.specs.declared.token.Token.TheVariants.{Tag, End, Text, Opaque}
use Rattle.syncml_shape.specs.declared.rows.Kind.{Kind}
use Rattle.syncml_shape.specs.declared.rows.Kind.TheVariants as kinds
use Rattle.syncml_shape.specs.Rows.{Content, document, start, next_child, is_complete, takes_text}
use Rattle.syncml_shape.specs.Faults.{tag_fault}
use Rattle.syncml_types.specs.Message.{Parts}
use Rattle.syncml_grammar.specs.declared.draft.Draft.TheVariants as draft
use Rattle.syncml_grammar.specs.Values.{Value, of_draft, fresh_value, with_text, closed_value, with_child}
use Rattle.syncml_grammar.specs.Reads.{◌then◌, parts_held}

-- an open element: its name, what it may still have, and what it holds so far; the document has no name
pub record Frame : Type 0 where
  pub element : Option Element
  pub kind : Kind
  pub content : Content
  pub value : Value

-- the document, which holds a message once that has ended
abbrev pub root : Frame
root = record { element = None; kind = kinds.Message; content = document; value = of_draft draft.Document }

abbrev pub began : Element → Kind → Frame
began e kind = record { element = Some e; kind = kind; content = start kind; value = fresh_value kind e }

abbrev pub named_end : Option Element → Frame → Frame → Result Frame Reason
named_end None child parent = Err Misplaced
named_end (Some e) child parent =
    closed_value child.kind child.value then (λ whole. Ok (record parent { value = with_child parent.value e whole }))

-- the parent behind its child's end
abbrev pub on_end : Frame → Frame → Result Frame Reason
on_end child parent = if is_complete child.content then named_end child.element child parent else Err Misplaced

-- behind the tag of a child that its parent has next
abbrev pub with_tag : Frame → List Frame → Element → Bool → Kind → Result (List Frame) Reason
with_tag parent below e true kind = Ok (began e kind ∷ parent ∷ below)
with_tag parent below e false kind = on_end (began e kind) parent then (λ p. Ok (p ∷ below))

-- the same of the innermost open element
abbrev pub on_kind : List Frame → Element → Bool → Kind → Result (List Frame) Reason
on_kind [] e content kind = Err Misplaced
on_kind (parent ∷ below) e content kind = with_tag parent below e content kind

abbrev pub on_next : Frame → List Frame → Element → Bool → Option (Kind × Content) → Result (List Frame) Reason
on_next top below e content None = Err Misplaced
on_next top below e content (Some x) = with_tag (record top { content = x.1 }) below e content x.0

abbrev pub on_tag : Frame → List Frame → Element → Bool → Option Reason → Result (List Frame) Reason
on_tag top below e content (Some reason) = Err reason
on_tag top below e content None = on_next top below e content (next_child top.content e)

abbrev pub on_text : Frame → List ℕ → Result Frame Reason
on_text top bytes =
    if takes_text top.content then Ok (record top { value = with_text top.value bytes }) else Err Misplaced

abbrev pub on_piece : Frame → List Frame → List ℕ → Result (List Frame) Reason
on_piece top below bytes = on_text top bytes then (λ after. Ok (after ∷ below))

-- the open elements behind one more token, the innermost first, or why it is refused
abbrev pub step : List Frame → Token → Result (List Frame) Reason
step [] token = Err Misplaced
step (top ∷ below) (Tag e content) = on_tag top below e content (tag_fault top.element e)
step (top ∷ below) (Text bytes) = on_piece top below bytes
step (top ∷ below) (Opaque bytes) = on_piece top below bytes
step (top ∷ []) End = Err Misplaced
step (top ∷ parent ∷ below) End = on_end top parent then (λ p. Ok (p ∷ below))

-- the parts of the message, where the document is whole
abbrev pub finished_parts : List Frame → Option Parts
finished_parts [] = None
finished_parts (top ∷ parent ∷ below) = None
finished_parts (top ∷ []) = if is_complete top.content then parts_held top.value else None
