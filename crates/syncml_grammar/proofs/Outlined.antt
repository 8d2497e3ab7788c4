-- The step over the open elements with what they hold is the step over their outline.
use Rattle.std.specs.Prelude.{◌≡◌, ◌⊎◌, Bool, true, false, if◌then◌else◌, ℕ, List, [], ◌∷◌, Option, Some, None, Result}
use Rattle.std.specs.Prelude.{Ok, Err, refl}
use Rattle.std.proofs.Common.{sym, ap, subst, ◌∙◌, inl, inr}
use Rattle.wbxml_tokens.specs.declared.reason.Reason.{Reason}
use Rattle.wbxml_tokens.specs.declared.reason.Reason.TheVariants.{Misplaced}
use Rattle.wbxml_tables.specs.declared.Element.{Element}
use Rattle.wbxml_tokens.specs.declared.token.Token.{Token}
use Rattle.wbxml_tokens.specs.declared.token.Token.TheVariants.{Tag, End, Text, Opaque}
use Rattle.syncml_shape.specs.declared.rows.Kind.{Kind}
use Rattle.syncml_shape.specs.Rows.{Content, start, next_child, is_complete, takes_text}
use Rattle.syncml_shape.specs.Shape.{IsViable}
use Rattle.syncml_shape.specs.Faults.{tag_fault}
use Rattle.syncml_shape.specs.Machine.{Frame as Outlined, with_tag as shape_tag, step as shape_step}
use Rattle.syncml_shape.specs.Outline.{then_outline, outline_from}
use Rattle.syncml_shape.specs.Outline.{HasTaken as HasOutline}
use Rattle.syncml_shape.proofs.Judging.{taken_viable as outline_viable}
use Rattle.syncml_grammar.specs.Values.{closed_value, with_text, with_child}
use Rattle.syncml_grammar.specs.Reads.{◌then◌}
use Rattle.syncml_grammar.specs.Machine.{Frame, root, began, named_end, on_tag, on_next, step}
use Rattle.syncml_grammar.specs.Building.{frames_behind, HasTaken}

abbrev pub outlined : Frame → Outlined
outlined f = record { element = f.element; content = f.content }

abbrev pub outline_of : List Frame → List Outlined
outline_of [] = []
outline_of (f ∷ s) = outlined f ∷ outline_of s

-- a step is taken as that over the outline, or refused as that, or refused where that is taken
abbrev pub Follows : Result (List Frame) Reason → Result (List Outlined) Reason → Type 0
Follows (Ok after) o = o ≡ Ok (outline_of after)
Follows (Err reason) o = (o ≡ Err reason) ⊎ ((after : List Outlined) × (o ≡ Ok after))

-- an END that is taken where what ends is complete
follows_end : (done : Bool) (r : Result Frame Reason) (below : List Frame) (parent : Outlined)
    → ((p : Frame) → r ≡ Ok p → outlined p ≡ parent)
    → Follows ((if done then r else Err Misplaced) then (λ p. Ok (p ∷ below)))
    (if done then Ok (parent ∷ outline_of below) else Err Misplaced)
follows_end true (Ok p) below parent h = ap (λ q. Ok (q ∷ outline_of below)) (sym (h p refl))
follows_end true (Err reason) below parent h = inr (parent ∷ outline_of below, refl)
follows_end false r below parent h = inl refl

named_outline : (o : Option Element) (child parent p : Frame) → named_end o child parent ≡ Ok p
    → outlined p ≡ outlined parent
named_outline None child parent p h = cc
named_outline (Some e) child parent p h =
    (elim (closed_value child.kind child.value)
    as (λ r. (r then (λ whole. Ok (record parent { value = with_child parent.value e whole }))) ≡ Ok p
    → outlined p ≡ outlined parent) [
      | Ok whole ↦ λ w. let is : record parent { value = with_child parent.value e whole } ≡ p = cc in
          ap outlined (sym is)
      | Err reason ↦ λ w. cc
    ]) h

follows_child : (top : Frame) (below : List Frame) (e : Element) (b : Bool) (fault : Option Reason)
    (o : Option (Kind × Content)) → next_child top.content e ≡ o
    → Follows (on_tag top below e b fault) (shape_tag (outlined top) (outline_of below) e b fault o)
follows_child top below e b (Some reason) o is = inl refl
follows_child top below e b None None is =
    subst (λ x. Follows (on_next top below e b x) (shape_tag (outlined top) (outline_of below) e b None None)) (sym is)
    (inl refl)
follows_child top below e true None (Some x) is =
    subst (λ y. Follows (on_next top below e true y) (shape_tag (outlined top) (outline_of below) e true None (Some x)))
    (sym is) refl
follows_child top below e false None (Some x) is =
    subst (λ y. Follows (on_next top below e false y)
    (shape_tag (outlined top) (outline_of below) e false None (Some x))) (sym is)
    (follows_end (is_complete (start x.0)) (named_end (Some e) (began e x.0) (record top { content = x.1 })) below
    (outlined (record top { content = x.1 }))
    (λ p w. named_outline (Some e) (began e x.0) (record top { content = x.1 }) p w))

follows_text : (takes : Bool) (top : Frame) (below : List Frame) (bytes : List ℕ)
    → Follows ((if takes then Ok (record top { value = with_text top.value bytes }) else Err Misplaced)
    then (λ after. Ok (after ∷ below)))
    (if takes then Ok (outlined top ∷ outline_of below) else Err Misplaced)
follows_text true top below bytes = refl
follows_text false top below bytes = inl refl

pub step_follows : (t : Token) (s : List Frame) → Follows (step s t) (shape_step (outline_of s) t)
step_follows t [] = inl refl
step_follows (Tag e b) (top ∷ below) = follows_child top below e b (tag_fault top.element e) (next_child top.content e) refl
step_follows (Text bytes) (top ∷ below) = follows_text (takes_text top.content) top below bytes
step_follows (Opaque bytes) (top ∷ below) = follows_text (takes_text top.content) top below bytes
step_follows End (top ∷ []) = inl refl
step_follows End (top ∷ parent ∷ below) =
    follows_end (is_complete top.content) (named_end top.element top parent) below (outlined parent)
    (λ p w. named_outline top.element top parent p w)

pub step_outline : (t : Token) (s after : List Frame) → step s t ≡ Ok after
    → shape_step (outline_of s) t ≡ Ok (outline_of after)
step_outline t s after h = subst (λ r. Follows r (shape_step (outline_of s) t)) h (step_follows t s)

outline_behind : (tokens : List Token) (s frames : List Frame) → frames_behind s tokens ≡ Ok frames
    → outline_from (outline_of s) tokens ≡ Ok (outline_of frames)
outline_behind [] s frames h = let is : s ≡ frames = cc in ap (λ r. Ok (outline_of r)) is
outline_behind (t ∷ tokens) s frames h =
    (elim (step s t)
    as (λ r. step s t ≡ r → (r then (λ m. frames_behind m tokens)) ≡ Ok frames
    → outline_from (outline_of s) (t ∷ tokens) ≡ Ok (outline_of frames)) [
      | Err reason ↦ λ w h'. cc
      | Ok m ↦ λ w h'.
          ap (λ o. then_outline o (λ x. outline_from x tokens)) (step_outline t s m w)
          ∙ outline_behind tokens m frames h'
    ]) refl h

-- what was taken, an outline takes
pub taken_outline : (tokens : List Token) (frames : List Frame) → HasTaken frames tokens
    → HasOutline (outline_of frames) tokens
taken_outline tokens frames h = outline_behind tokens (root ∷ []) frames h

pub taken_viable : (tokens : List Token) (frames : List Frame) → HasTaken frames tokens → IsViable tokens
taken_viable tokens frames h = outline_viable tokens (outline_of frames) (taken_outline tokens frames h)
