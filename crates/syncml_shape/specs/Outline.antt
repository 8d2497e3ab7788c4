-- What an outline says of the tokens that it took, and what is answered of a whole list.
use Rattle.std.specs.Prelude.{◌≡◌, ℕ, ◌+◌, List, [], ◌∷◌, map, reverse, Bool, true, false, Result, Ok, Err, IsOk}
use Rattle.wbxml_tokens.specs.declared.reason.Reason.{Reason}
use Rattle.wbxml_tokens.specs.declared.reason.Stop.{Stop}
use Rattle.wbxml_tokens.specs.declared.reason.Stop.TheVariants as stops
use Rattle.wbxml_tokens.specs.declared.token.Token.{Token}
use Rattle.syncml_shape.specs.declared.outline.Entry.{Entry}
use Rattle.syncml_shape.specs.declared.outline.ShapeVerdict.{ShapeVerdict}
use Rattle.syncml_shape.specs.declared.outline.ShapeVerdict.TheVariants as verdict
use Rattle.syncml_shape.specs.Forest.{Forest}
use Rattle.syncml_shape.specs.Shape.{HasShape, IsViable}
use Rattle.syncml_shape.specs.Faults.{IsRefusedAt}
use Rattle.syncml_shape.specs.Machine.{Frame, root, step, may_end}
use Rattle.syncml_shape.specs.Progress.{content_of}

abbrev pub frame_of : Entry → Frame
frame_of entry = record { element = entry.element; content = content_of entry.progress }

-- the open elements, the innermost first
abbrev pub frames_of : Entry → List Entry → List Frame
frames_of top below = frame_of top ∷ reverse (map frame_of below)

abbrev pub without_innermost : List Frame → List Frame
without_innermost [] = []
without_innermost (top ∷ below) = below

abbrev pub then_outline : Result (List Frame) Reason → (List Frame → Result (List Frame) Reason)
    → Result (List Frame) Reason
then_outline (Ok frames) f = f frames
then_outline (Err reason) f = Err reason

-- the open elements behind tokens
abbrev pub outline_from : List Frame → List Token → Result (List Frame) Reason
outline_from frames [] = Ok frames
outline_from frames (token ∷ tokens) = then_outline (step frames token) (λ after. outline_from after tokens)

-- these are the open elements behind the tokens, of which none was refused
abbrev pub HasTaken : List Frame → List Token → Type 0
HasTaken frames tokens = outline_from (root ∷ []) tokens ≡ Ok frames

-- what is answered of one more token; memory is wanted only where it isn't refused
abbrev pub GivesStep : Result Unit Stop → List Frame → Result (List Frame) Reason → Type 0
GivesStep (Ok u) after x = x ≡ Ok after
GivesStep (Err (stops.Refused reason)) after x = x ≡ Err reason
GivesStep (Err stops.Memory) after x = IsOk x

-- the innermost element is another, and a child is open in it
abbrev pub Opens : Result Unit Stop → List Frame → List Frame → Frame → Frame → Type 0
Opens (Ok u) before after parent child = after ≡ child ∷ parent ∷ without_innermost before
Opens (Err (stops.Refused reason)) before after parent child = ⊥
Opens (Err stops.Memory) before after parent child = Unit {0}

-- what is answered of a whole list: its tokens are a document, or begin one, or one of them is refused
abbrev pub Judges : List Token → ShapeVerdict → Type 0
Judges tokens verdict.Whole = (tree : Forest) × HasShape tokens tree
Judges tokens verdict.Unfinished = IsViable tokens × ((tree : Forest) → HasShape tokens tree → ⊥)
Judges tokens (verdict.Refused at reason) = IsRefusedAt tokens at reason

abbrev pub whole_or_not : Bool → ShapeVerdict
whole_or_not true = verdict.Whole
whole_or_not false = verdict.Unfinished

abbrev pub verdict_then : ℕ → Result (List Frame) Reason → (List Frame → ShapeVerdict) → ShapeVerdict
verdict_then at (Ok frames) f = f frames
verdict_then at (Err reason) f = verdict.Refused at reason

-- the same, computed
abbrev pub verdict_from : ℕ → List Frame → List Token → ShapeVerdict
verdict_from at frames [] = whole_or_not (may_end frames)
verdict_from at frames (token ∷ tokens) =
    verdict_then at (step frames token) (λ after. verdict_from (at + 1) after tokens)

abbrev pub verdict_of : List Token → ShapeVerdict
verdict_of tokens = verdict_from 0 (root ∷ []) tokens
