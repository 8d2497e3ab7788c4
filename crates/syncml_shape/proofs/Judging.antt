-- What an outline takes, refuses and finds whole is what begins a document, what is refused, and what is a document.
use Rattle.std.specs.Prelude.{◌≡◌, ℕ, ◌+◌, Bool, true, false, if◌then◌else◌, List, [], ◌∷◌, ◌++◌, length, Option, Some}
use Rattle.std.specs.Prelude.{None, IsTrue, Ok, Err, refl}
use Rattle.std.proofs.Common.{sym, ap, subst, ◌∙◌, append_assoc, append-nil, arith, length-append}
use Rattle.std.proofs.lemmas.List.{append_cancel_right}
use Rattle.wbxml_tokens.specs.declared.reason.Reason.{Reason}
use Rattle.wbxml_tables.specs.declared.Element.{Element}
use Rattle.wbxml_tokens.specs.declared.token.Token.{Token}
use Rattle.wbxml_tokens.specs.declared.token.Token.TheVariants.{Tag, End}
use Rattle.syncml_shape.specs.declared.outline.ShapeVerdict.{ShapeVerdict}
use Rattle.syncml_shape.specs.declared.outline.ShapeVerdict.TheVariants as verdict
use Rattle.syncml_shape.specs.Forest.{Forest, spelling}
use Rattle.syncml_shape.specs.Rows.{Content, document, is_complete, next_child}
use Rattle.syncml_shape.specs.Shape.{HasShape, IsViable}
use Rattle.syncml_shape.specs.Faults.{tag_fault, innermost, open_behind, open_elements, open_after, IsRefused}
use Rattle.syncml_shape.specs.Machine.{Frame, root, step, with_tag, may_end}
use Rattle.syncml_shape.specs.Laws.{FaultsHaveNoShape, FitsIsStepped, ClosingIsFit, ViableIsOpen, ViableIsTaken}
use Rattle.syncml_shape.specs.Laws.{JudgedIsComputed}
use Rattle.syncml_shape.specs.Outline.{then_outline, outline_from, HasTaken, Judges, whole_or_not, verdict_then}
use Rattle.syncml_shape.specs.Outline.{verdict_from, verdict_of}
use Rattle.syncml_shape.specs.Steps.{Open, then_steps, steps}
use Rattle.syncml_shape.specs.Steps.{content_step}
use Rattle.syncml_shape.proofs.Contents.{steps-append}
use Rattle.syncml_shape.proofs.Accepts.{steps-spelling, closes}
use Rattle.syncml_shape.proofs.Completes.{opened, one_tree, viable-if, viable-only}
use Rattle.syncml_shape.proofs.Frames.{contents_of, AllNamed, AreOf, LeavesNone, step_taken, step_refused, head-of}

-- ---- what the frames behind tokens are

pub record Held (frames : List Frame) (from : Open) (es : List Element) (tokens : List Token) : Type 0 where
  pub named : AllNamed frames
  pub contents : steps from tokens ≡ Some (contents_of frames)
  pub elements : AreOf frames (open_behind es tokens)

held_from : (tokens : List Token) (s frames : List Frame) (es : List Element) → AllNamed s → AreOf s es
    → outline_from s tokens ≡ Ok frames → Held frames (contents_of s) es tokens
held_from [] s frames es n a h =
    let eq : s ≡ frames = cc in
    subst (λ r. Held r (contents_of s) es []) eq (record { named = n; contents = refl; elements = a })
held_from (t ∷ tokens) s frames es n a h =
    (elim (step s t)
    as (λ o. step s t ≡ o → then_outline o (λ m. outline_from m tokens) ≡ Ok frames
    → Held frames (contents_of s) es (t ∷ tokens)) [
      | Err reason ↦ λ w h'. cc
      | Ok m ↦ λ w h'.
          let took = step_taken t s es m n a w in
          let rest = held_from tokens m frames (open_after es t) took.named took.elements h' in
          record {
            named = rest.named;
            contents = ap (λ o. then_steps o (λ x. steps x tokens)) took.contents ∙ rest.contents;
            elements = rest.elements;
          }
    ]) refl h

root_named : AllNamed (root ∷ [])
root_named = (record { here = refl; below = refl }, tt)

pub held : (tokens : List Token) (frames : List Frame) → HasTaken frames tokens → Held frames (document ∷ []) [] tokens
held tokens frames h = held_from tokens (root ∷ []) frames [] root_named refl h

-- ---- one more token

pub outline-append : (a b : List Token) (s : List Frame)
    → outline_from s (a ++ b) ≡ then_outline (outline_from s a) (λ m. outline_from m b)
outline-append [] b s = refl
outline-append (t ∷ a) b s =
    elim (step s t) as (λ o.
    then_outline o (λ m. outline_from m (a ++ b))
    ≡ then_outline (then_outline o (λ m. outline_from m a)) (λ m. outline_from m b)) [
      | Err reason ↦ refl
      | Ok m ↦ outline-append a b m
    ]

pub takes_one : (tokens : List Token) (s after : List Frame) (t : Token) → HasTaken s tokens → step s t ≡ Ok after
    → HasTaken after (tokens ++ t ∷ [])
takes_one tokens s after t h w =
    outline-append tokens (t ∷ []) (root ∷ []) ∙ ap (λ o. then_outline o (λ m. outline_from m (t ∷ []))) h
    ∙ ap (λ o. then_outline o (λ m. outline_from m [])) w

pub viable_front : (a b : List Token) → IsViable (a ++ b) → IsViable a
viable_front a b v = (b ++ v.0, v.1, subst (λ l. HasShape l v.1) (append_assoc a b v.0) v.2)

pub taken_viable : (tokens : List Token) (s : List Frame) → HasTaken s tokens → IsViable tokens
taken_viable tokens [] h = absurd (held tokens [] h).elements
taken_viable tokens (f ∷ s) h = viable-if tokens f.content (contents_of s) (held tokens (f ∷ s) h).contents

leaves_more : (o : Option Open) (c : Content) (s : Open) → LeavesNone o → o ≡ Some (c ∷ s) → ⊥
leaves_more None c s l h = cc
leaves_more (Some []) c s l h = cc
leaves_more (Some (d ∷ r)) c s l h = l

opened-one : (tokens : List Token) (s : List Frame) (t : Token) → HasTaken s tokens
    → opened (tokens ++ t ∷ []) ≡ content_step (contents_of s) t
opened-one tokens s t h =
    steps-append (document ∷ []) tokens (t ∷ [])
    ∙ ap (λ o. then_steps o (λ m. steps m (t ∷ []))) (held tokens s h).contents
    ∙ one_step (content_step (contents_of s) t)
  where
    one_step : (o : Option Open) → then_steps o (λ m. Some m) ≡ o
    one_step None = refl
    one_step (Some m) = refl

pub refused_here : (tokens : List Token) (s : List Frame) (t : Token) (reason : Reason) → HasTaken s tokens
    → step s t ≡ Err reason → IsRefused tokens t reason
refused_here tokens s t reason h w =
    let was = held tokens s h in
    let no = step_refused t s (open_elements tokens) reason was.named was.elements w in
    record {
      viable = taken_viable tokens s h;
      not_viable = λ v.
          let more = viable-only (tokens ++ t ∷ []) v in
          leaves_more (content_step (contents_of s) t) more.0 more.1 no.none (sym (opened-one tokens s t h) ∙ more.2);
      named = no.named;
    }

pub refused_only : (tokens : List Token) (s : List Frame) (t : Token) (reason : Reason) → HasTaken s tokens
    → IsRefused tokens t reason → step s t ≡ Err reason
refused_only tokens s t reason h refused =
    elim (step s t) as (λ o. step s t ≡ o → o ≡ Err reason) [
      | Ok m ↦ λ w. absurd (refused.not_viable (taken_viable (tokens ++ t ∷ []) m (takes_one tokens s m t h w)))
      | Err other ↦ λ w. ap Err ((refused_here tokens s t other h w).named ∙ sym refused.named)
    ] refl

-- ---- what begins a document is taken

cut-append : (a : List Token) (t : Token) (b : List Token) → (a ++ t ∷ []) ++ b ≡ a ++ t ∷ b
cut-append a t b = append_assoc a (t ∷ []) b

viable_goes_on : (tokens before : List Token) (s : List Frame) → HasTaken s before → IsViable (before ++ tokens)
    → (frames : List Frame) × HasTaken frames (before ++ tokens)
viable_goes_on [] before s h v = (s, subst (λ l. HasTaken s l) (sym (append-nil before)) h)
viable_goes_on (t ∷ tokens) before s h v =
    elim (step s t) as (λ o. step s t ≡ o → (frames : List Frame) × HasTaken frames (before ++ t ∷ tokens)) [
      | Err reason ↦ λ w.
          absurd ((refused_here before s t reason h w).not_viable
          (viable_front (before ++ t ∷ []) tokens (subst IsViable (sym (cut-append before t tokens)) v)))
      | Ok m ↦ λ w.
          let rest =
          viable_goes_on tokens (before ++ t ∷ []) m (takes_one before s m t h w)
          (subst IsViable (sym (cut-append before t tokens)) v) in
          (rest.0, subst (λ l. HasTaken rest.0 l) (cut-append before t tokens) rest.1)
    ] refl

pub viable_taken : (tokens : List Token) → IsViable tokens → (frames : List Frame) × HasTaken frames tokens
viable_taken tokens v = viable_goes_on tokens [] (root ∷ []) refl v

-- ---- what is a document

some_where : (b : Bool) (s : Open) → IsTrue b → (if b then Some s else None) ≡ Some s
some_where true s h = refl
some_where false s h = cc

was_true : (b : Bool) (s : Open) → (if b then Some s else None) ≡ Some [] → IsTrue b × (s ≡ [])
was_true true s h = (refl, cc)
was_true false s h = cc

whole_closes : (s : List Frame) → IsTrue (may_end s) → content_step (contents_of s) End ≡ Some []
whole_closes [] h = cc
whole_closes (f ∷ []) h = some_where (is_complete f.content) [] h
whole_closes (f ∷ g ∷ s) h = cc

closed_whole : (s : List Frame) → content_step (contents_of s) End ≡ Some [] → IsTrue (may_end s)
closed_whole [] h = cc
closed_whole (f ∷ []) h = (was_true (is_complete f.content) [] h).0
closed_whole (f ∷ g ∷ s) h = let is = (was_true (is_complete f.content) (contents_of (g ∷ s)) h).1 in cc

pub whole_shaped : (tokens : List Token) (s : List Frame) → HasTaken s tokens → IsTrue (may_end s)
    → (tree : Forest) × HasShape tokens tree
whole_shaped tokens s h w =
    let closed : opened (tokens ++ End ∷ []) ≡ Some [] = opened-one tokens s End h ∙ whole_closes s w in
    let tree = one_tree document (tokens ++ End ∷ []) (closes (tokens ++ End ∷ []) (document ∷ []) closed) in
    (tree.0, record { spelled = append_cancel_right tokens (spelling tree.0) (End ∷ []) tree.1; fitting = tree.2 })

pub shaped_whole : (tokens : List Token) (s : List Frame) (tree : Forest) → HasTaken s tokens → HasShape tokens tree
    → IsTrue (may_end s)
shaped_whole tokens s tree h shape =
    closed_whole s (sym (opened-one tokens s End h) ∙ ap (λ l. opened (l ++ End ∷ [])) shape.spelled
    ∙ steps-spelling tree document [] [] shape.fitting)

pub shaped_viable : (tokens : List Token) (tree : Forest) → HasShape tokens tree → IsViable tokens
shaped_viable tokens tree shape = ([], tree, subst (λ l. HasShape l tree) (sym (append-nil tokens)) shape)

-- ---- the verdict on a whole list

judges_end : (tokens : List Token) (s : List Frame) → HasTaken s tokens → Judges tokens (whole_or_not (may_end s))
judges_end tokens s h =
    elim (may_end s) as (λ (b : Bool). may_end s ≡ b → Judges tokens (whole_or_not b)) [
      | true ↦ λ w. whole_shaped tokens s h w
      | false ↦ λ w. (
        taken_viable tokens s h,
        λ tree shape. let yes : may_end s ≡ true = shaped_whole tokens s tree h shape in cc,
      )
    ] refl

judges_from : (tokens before : List Token) (s : List Frame) (at : ℕ) → HasTaken s before → length before ≡ at
    → Judges (before ++ tokens) (verdict_from at s tokens)
judges_from [] before s at h len =
    subst (λ l. Judges l (whole_or_not (may_end s))) (sym (append-nil before)) (judges_end before s h)
judges_from (t ∷ tokens) before s at h len =
    elim (step s t) as (λ o. step s t ≡ o
    → Judges (before ++ t ∷ tokens) (verdict_then at o (λ m. verdict_from (at + 1) m tokens))) [
      | Err reason ↦ λ w. (before, t, tokens, refl, len, refused_here before s t reason h w)
      | Ok m ↦ λ w.
          subst (λ l. Judges l (verdict_from (at + 1) m tokens)) (cut-append before t tokens)
          (judges_from tokens (before ++ t ∷ []) m (at + 1) (takes_one before s m t h w)
          (length-one before t ∙ ap (λ n. n + 1) len))
    ] refl
  where
    length-one : (a : List Token) (x : Token) → length (a ++ x ∷ []) ≡ length a + 1
    length-one a x = length-append a (x ∷ [])

pub verdict_judges : (tokens : List Token) → Judges tokens (verdict_of tokens)
verdict_judges tokens = judges_from tokens [] (root ∷ []) 0 refl refl

verdict-append : (a b : List Token) (s frames : List Frame) (at : ℕ) → outline_from s a ≡ Ok frames
    → verdict_from at s (a ++ b) ≡ verdict_from (at + length a) frames b
verdict-append [] b s frames at h = let eq : s ≡ frames = cc in
    ap (λ r. verdict_from at r b) eq ∙ ap (λ n. verdict_from n frames b) (omega arith)
verdict-append (t ∷ a) b s frames at h =
    (elim (step s t)
    as (λ o. step s t ≡ o → then_outline o (λ m. outline_from m a) ≡ Ok frames
    → verdict_then at o (λ m. verdict_from (at + 1) m (a ++ b)) ≡ verdict_from (at + length (t ∷ a)) frames b) [
      | Err reason ↦ λ w h'. cc
      | Ok m ↦ λ w h'. verdict-append a b m frames (at + 1) h' ∙ ap (λ n. verdict_from n frames b) (omega arith)
    ]) refl h

verdict-taken : (tokens : List Token) (s : List Frame) → HasTaken s tokens
    → verdict_of tokens ≡ whole_or_not (may_end s)
verdict-taken tokens s h = ap verdict_of (sym (append-nil tokens)) ∙ verdict-append tokens [] (root ∷ []) s 0 h

not_whole : (b : Bool) → (IsTrue b → ⊥) → b ≡ false
not_whole true never = absurd (never refl)
not_whole false never = refl

pub one_verdict : (tokens : List Token) (v : ShapeVerdict) → Judges tokens v → verdict_of tokens ≡ v
one_verdict tokens verdict.Whole j =
    let took = viable_taken tokens (shaped_viable tokens j.0 j.1) in
    verdict-taken tokens took.0 took.1 ∙ ap whole_or_not (shaped_whole tokens took.0 j.0 took.1 j.1)
one_verdict tokens verdict.Unfinished j =
    let took = viable_taken tokens j.0 in
    verdict-taken tokens took.0 took.1
    ∙ ap whole_or_not
    (not_whole (may_end took.0) (λ w. let tree = whole_shaped tokens took.0 took.1 w in j.1 tree.0 tree.1))
one_verdict tokens (verdict.Refused at reason) j =
    let took = viable_taken j.0 j.5.viable in
    ap verdict_of j.3 ∙ verdict-append j.0 (j.1 ∷ j.2) (root ∷ []) took.0 0 took.1
    ∙ ap (λ o. verdict_then (0 + length j.0) o (λ m. verdict_from (0 + length j.0 + 1) m j.2))
    (refused_only j.0 took.0 j.1 reason took.1 j.5)
    ∙ ap (λ n. verdict.Refused n reason) (omega (arith, j.4))

-- ---- laws

fault_stops : (f : Frame) (s m : List Frame) (e : Element) (content : Bool) (reason : Reason)
    → tag_fault f.element e ≡ Some reason → step (f ∷ s) (Tag e content) ≡ Ok m → ⊥
fault_stops f s m e content reason fault h =
    let stopped : step (f ∷ s) (Tag e content) ≡ Err reason =
    ap (λ o. with_tag f s e content o (next_child f.content e)) fault in cc

no_step : (before : List Token) (s m : List Frame) (e : Element) (content : Bool) (reason : Reason) → HasTaken s before
    → tag_fault (innermost (open_elements before)) e ≡ Some reason
    → step s (Tag e content) ≡ Ok m → ⊥
no_step before [] m e content reason h fault w = absurd (held before [] h).elements
no_step before (f ∷ s) m e content reason h fault w =
    fault_stops f s m e content reason
    (ap (λ p. tag_fault p e) (head-of f s (open_elements before) (held before (f ∷ s) h).elements) ∙ fault) w

pub faults_have_no_shape : FaultsHaveNoShape
faults_have_no_shape before e content reason fault v =
    let took = viable_taken before (viable_front before (Tag e content ∷ []) v) in
    elim (step took.0 (Tag e content)) as (λ o. step took.0 (Tag e content) ≡ o → ⊥) [
      | Err other ↦ λ w. (refused_here before took.0 (Tag e content) other took.1 w).not_viable v
      | Ok m ↦ λ w. no_step before took.0 m e content reason took.1 fault w
    ] refl

pub fits_is_stepped : FitsIsStepped
fits_is_stepped tree content below tokens h = steps-spelling tree content below tokens h

pub closing_is_fit : ClosingIsFit
closing_is_fit tokens s h = closes tokens s h

pub viable_is_open : ViableIsOpen
viable_is_open tokens = (viable-only tokens, λ o. viable-if tokens o.0 o.1 o.2)

pub viable_is_taken : ViableIsTaken
viable_is_taken tokens = (viable_taken tokens, λ took. taken_viable tokens took.0 took.1)

pub judged_is_computed : JudgedIsComputed
judged_is_computed tokens verdict = (one_verdict tokens verdict, λ is. subst (Judges tokens) is (verdict_judges tokens))
