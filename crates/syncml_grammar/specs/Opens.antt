-- The open elements as the builder keeps them, and what its calls answer.
use Rattle.std.specs.Prelude.{◌≡◌, List, [], ◌∷◌, map, reverse, Option, Some, None, Result, Ok, Err, IsOk, false}
use Rattle.wbxml_tokens.specs.declared.reason.Reason.{Reason}
use Rattle.syncml_shape.specs.declared.rows.Kind.{Kind}
use Rattle.syncml_shape.specs.declared.rows.Kind.TheVariants as kinds
use Rattle.syncml_shape.specs.Rows.{Content, in_order, pieces}
use Rattle.syncml_shape.specs.Progress.{content_of}
use Rattle.syncml_types.specs.Message.{Parts}
use Rattle.syncml_grammar.specs.declared.draft.WholeParts.{WholeParts}
use Rattle.syncml_grammar.specs.declared.open.Open.{Open}
use Rattle.syncml_grammar.specs.declared.open.OpenLeaf.{OpenLeaf}
use Rattle.wbxml_tokens.specs.declared.reason.Stop.{Stop}
use Rattle.wbxml_tokens.specs.declared.reason.Stop.TheVariants as stops
use Rattle.syncml_grammar.specs.Values.{of_leaf, of_draft}
use Rattle.syncml_grammar.specs.Machine.{Frame}

abbrev pub frame_of : Open → Frame
frame_of o = record { element = o.element; kind = o.kind; content = content_of o.progress; value = of_draft o.draft }

-- a flag has nothing, and every other element without children pieces of text
abbrev pub leaf_content : Kind → Content
leaf_content kinds.Flag = in_order false []
leaf_content other = pieces

abbrev pub leaf_frame : OpenLeaf → Frame
leaf_frame o = record { element = Some o.element; kind = o.kind; content = leaf_content o.kind; value = of_leaf o.leaf }

-- the open elements with children, the innermost first
abbrev pub frames_of : Open → List Open → List Frame
frames_of top below = frame_of top ∷ reverse (map frame_of below)

-- with the one without, which is innermost
abbrev pub with_open_leaf : Option OpenLeaf → List Frame → List Frame
with_open_leaf None frames = frames
with_open_leaf (Some o) frames = leaf_frame o ∷ frames

-- what was left is what the definition gives, or why it stopped; memory is wanted only where it isn't refused
abbrev pub StopsFor : {A : Type 0} → Stop → Result A Reason → Type 0
StopsFor stops.Memory x = IsOk x
StopsFor (stops.Refused reason) x = x ≡ Err reason

abbrev pub GivesFrame : Result Unit Stop → Frame → Result Frame Reason → Type 0
GivesFrame (Ok u) after x = x ≡ Ok after
GivesFrame (Err stop) after x = StopsFor stop x

abbrev pub GivesFrames : Result Unit Stop → List Frame → Result (List Frame) Reason → Type 0
GivesFrames (Ok u) after x = x ≡ Ok after
GivesFrames (Err stop) after x = StopsFor stop x

abbrev pub parts_from_whole : WholeParts → Parts
parts_from_whole p = record { header = p.header; body = p.body; last = p.last }
