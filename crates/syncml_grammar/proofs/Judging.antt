-- What is taken, refused and finished is what is read, what is refused by the grammar and its texts, and what is
-- spelled.
use Rattle.std.specs.Prelude.{◌≡◌, ◌⊎◌, ℕ, ◌+◌, ◌≤◌, length, Bool, true, false, if◌then◌else◌, List, [], ◌∷◌, ◌++◌}
use Rattle.std.specs.Prelude.{Option, Some, None, Result, Ok, Err, IsTrue, refl}
use Rattle.std.proofs.Common.{sym, ◌∙◌, ap, subst, append_assoc, append-nil, arith, length-append, inl, inr}
use Rattle.wbxml_tokens.specs.declared.reason.Reason.{Reason}
use Rattle.wbxml_tokens.specs.declared.token.Token.{Token}
use Rattle.syncml_shape.specs.Forest.{Forest}
use Rattle.syncml_shape.specs.Rows.{document, is_complete}
use Rattle.syncml_shape.specs.Shape.{HasShape, IsViable}
use Rattle.syncml_shape.specs.Faults.{IsRefused as IsMisshapen}
use Rattle.syncml_shape.specs.Machine.{Frame as Outlined, may_end, step as shape_step}
use Rattle.syncml_shape.specs.Outline.{HasTaken as HasOutline}
use Rattle.syncml_shape.proofs.Judging.{takes_one as outline_takes, viable_front, taken_viable as outline_viable}
use Rattle.syncml_shape.proofs.Judging.{refused_here as misshapen_here, whole_shaped}
use Rattle.syncml_types.specs.Message.{Parts}
use Rattle.syncml_grammar.specs.Values.{Value}
use Rattle.syncml_grammar.specs.Reads.{Unread, at_place, read_document, parts_held, ReadsAs, SpellsParts, ◌then◌}
use Rattle.syncml_grammar.specs.Machine.{Frame, root, step, finished_parts}
use Rattle.syncml_grammar.specs.Building.{frames_behind, HasTaken}
use Rattle.syncml_grammar.specs.Refusals.{AllRead, ClosesUnread, IsRefused, Verdict, message, unfinished, refused}
use Rattle.syncml_grammar.specs.Refusals.{Judges, message_or_not, verdict_then, verdict_from, verdict_of}
use Rattle.syncml_grammar.specs.Refusals.{JudgedIsComputed, StepIsRefused, FinishedIsSpelled, TakenIsRead}
use Rattle.syncml_grammar.proofs.Runs.{behind-append}
use Rattle.syncml_grammar.proofs.Outlined.{outline_of, Follows, step_follows, taken_outline, taken_viable}
use Rattle.syncml_grammar.proofs.Placed.{run_at, rest_of, rest_complete, behind, run_document, run_of, behind_of}
use Rattle.syncml_grammar.proofs.Placed.{run_on, stops_later}

cut-append : (a : List Token) (t : Token) (b : List Token) → (a ++ t ∷ []) ++ b ≡ a ++ t ∷ b
cut-append a t b = append_assoc a (t ∷ []) b

-- ---- one more token

pub takes_one : (tokens : List Token) (s after : List Frame) (t : Token) → HasTaken s tokens → step s t ≡ Ok after
    → HasTaken after (tokens ++ t ∷ [])
takes_one tokens s after t h w =
    behind-append tokens (t ∷ []) (root ∷ []) ∙ ap (λ o. o then (λ m. frames_behind m (t ∷ []))) h
    ∙ ap (λ o. o then (λ m. frames_behind m [])) w

-- what was taken is read
pub all_read : (tokens : List Token) (s : List Frame) → HasTaken s tokens → AllRead tokens
all_read tokens s h more tree unread shape bad =
    let whole : run_at 0 (root ∷ []) (tokens ++ more) ≡ Err unread =
    run_document (tokens ++ more) tree shape ∙ ap (λ x. x then (λ p. Ok (behind tree p.0))) bad in
    let later = stops_later more (0 + length tokens) s unread (sym (run_on tokens more 0 (root ∷ []) s h) ∙ whole) in
    omega (arith, later)

err_only : (x : Result (Value × ℕ) Unread) (tree : Forest) (u : Unread) → (x then (λ p. Ok (behind tree p.0))) ≡ Err u
    → x ≡ Err u
err_only (Ok p) tree u h = cc
err_only (Err v) tree u h = let is : v ≡ u = cc in ap Err is

-- a token at which the steps stop closes what is unread, in every document that goes on with it
pub closes_unread : (before : List Token) (s : List Frame) (t : Token) (reason : Reason) → HasTaken s before
    → step s t ≡ Err reason → ClosesUnread before t reason
closes_unread before s t reason h w more tree shape =
    let stopped : run_at 0 (root ∷ []) ((before ++ t ∷ []) ++ more)
    ≡ Err (record { at = length before; reason = reason }) =
    ap (run_at 0 (root ∷ [])) (cut-append before t more)
    ∙ run_on before (t ∷ more) 0 (root ∷ []) s h
    ∙ ap (λ r. at_place (0 + length before) r then (λ m. run_at (0 + length before + 1) m more)) w
    ∙ ap (λ n. Err (record { at = n; reason = reason })) (omega arith) in
    err_only (read_document tree) tree (record { at = length before; reason = reason })
    (sym (run_document ((before ++ t ∷ []) ++ more) tree shape) ∙ stopped)

pub refused_here : (before : List Token) (s : List Frame) (t : Token) (reason : Reason) → HasTaken s before
    → step s t ≡ Err reason → IsRefused before t reason
refused_here before s t reason h w =
    (all_read before s h, by (subst (λ r. Follows r (shape_step (outline_of s) t)) w (step_follows t s)))
  where
    taken : HasOutline (outline_of s) before
    taken = taken_outline before s h

    by : (shape_step (outline_of s) t ≡ Err reason)
        ⊎ ((after : List Outlined) × (shape_step (outline_of s) t ≡ Ok after))
        → IsMisshapen before t reason ⊎ (IsViable (before ++ t ∷ []) × ClosesUnread before t reason)
    by (inl misshapen) = inl (misshapen_here before (outline_of s) t reason taken misshapen)
    by (inr goes) = inr (
      outline_viable (before ++ t ∷ []) goes.0 (outline_takes before (outline_of s) goes.0 t taken goes.1),
      closes_unread before s t reason h w,
    )

-- ---- what is refused doesn't go on

regroup : (before : List Token) (t : Token) (tokens more : List Token)
    → (before ++ t ∷ tokens) ++ more ≡ (before ++ t ∷ []) ++ (tokens ++ more)
regroup before t tokens more =
    append_assoc before (t ∷ tokens) more ∙ sym (append_assoc before (t ∷ []) (tokens ++ more))

longer : (before : List Token) (t : Token) (tokens : List Token) → length (before ++ t ∷ tokens) ≤ length before → ⊥
longer before t tokens far = omega (arith, far, length-append before (t ∷ tokens))

not_unread : (before : List Token) (t : Token) (tokens : List Token) (reason : Reason) → ClosesUnread before t reason
    → IsViable (before ++ t ∷ tokens) → AllRead (before ++ t ∷ tokens) → ⊥
not_unread before t tokens reason closes v all =
    longer before t tokens
    (all v.0 v.1 (record { at = length before; reason = reason }) v.2
    (closes (tokens ++ v.0) v.1 (subst (λ l. HasShape l v.1) (regroup before t tokens v.0) v.2)))

not_both : (before : List Token) (t : Token) (tokens : List Token) (reason : Reason) → IsRefused before t reason
    → IsViable (before ++ t ∷ tokens) → AllRead (before ++ t ∷ tokens) → ⊥
not_both before t tokens reason x v all = by x.1
  where
    by : IsMisshapen before t reason ⊎ (IsViable (before ++ t ∷ []) × ClosesUnread before t reason) → ⊥
    by (inl misshapen) =
        misshapen.not_viable
        (viable_front (before ++ t ∷ []) tokens (subst IsViable (sym (cut-append before t tokens)) v))
    by (inr closes) = not_unread before t tokens reason closes.1 v all

-- at one token there is one reason
one_reason : (before : List Token) (t : Token) (a b : Reason) → IsRefused before t a → IsRefused before t b → a ≡ b
one_reason before t a b x y = by x.1 y.1
  where
    by : IsMisshapen before t a ⊎ (IsViable (before ++ t ∷ []) × ClosesUnread before t a)
        → IsMisshapen before t b ⊎ (IsViable (before ++ t ∷ []) × ClosesUnread before t b) → a ≡ b
    by (inl misshapen) (inl other) = misshapen.named ∙ sym other.named
    by (inl misshapen) (inr closes) = absurd (misshapen.not_viable closes.0)
    by (inr closes) (inl misshapen) = absurd (misshapen.not_viable closes.0)
    by (inr closes) (inr other) =
        let v = closes.0 in
        let same : ◌≡◌ {A = Result (Value × ℕ) Unread} (Err (record { at = length before; reason = a }))
        (Err (record { at = length before; reason = b })) =
        sym (closes.1 v.0 v.1 v.2) ∙ other.1 v.0 v.1 v.2 in
        let unread : ◌≡◌ {A = Unread} (record { at = length before; reason = a })
        (record { at = length before; reason = b }) = cc in
        ap (λ (u : Unread). u.reason) unread

pub refused_only : (before : List Token) (s : List Frame) (t : Token) (reason : Reason) → HasTaken s before
    → IsRefused before t reason → step s t ≡ Err reason
refused_only before s t reason h x =
    elim (step s t) as (λ o. step s t ≡ o → o ≡ Err reason) [
      | Ok m ↦ λ w.
          let took = takes_one before s m t h w in
          absurd (not_both before t [] reason x (taken_viable (before ++ t ∷ []) m took)
          (all_read (before ++ t ∷ []) m took))
      | Err other ↦ λ w. ap Err (one_reason before t other reason (refused_here before s t other h w) x)
    ] refl

-- what begins a document and is read is taken
goes_on : (tokens before : List Token) (s : List Frame) → HasTaken s before → IsViable (before ++ tokens)
    → AllRead (before ++ tokens)
    → (frames : List Frame) × HasTaken frames (before ++ tokens)
goes_on [] before s h v all = (s, subst (λ l. HasTaken s l) (sym (append-nil before)) h)
goes_on (t ∷ tokens) before s h v all =
    elim (step s t) as (λ o. step s t ≡ o → (frames : List Frame) × HasTaken frames (before ++ t ∷ tokens)) [
      | Err reason ↦ λ w. absurd (not_both before t tokens reason (refused_here before s t reason h w) v all)
      | Ok m ↦ λ w.
          let same = cut-append before t tokens in
          let rest =
          goes_on tokens (before ++ t ∷ []) m (takes_one before s m t h w) (subst IsViable (sym same) v)
          (subst AllRead (sym same) all) in
          (rest.0, subst (λ l. HasTaken rest.0 l) same rest.1)
    ] refl

pub read_taken : (tokens : List Token) → IsViable tokens → AllRead tokens
    → (frames : List Frame) × HasTaken frames tokens
read_taken tokens v all = goes_on tokens [] (root ∷ []) refl v all

-- ---- what is finished

finished_top : (s : List Frame) (parts : Parts) → finished_parts s ≡ Some parts
    → (top : Frame) × (s ≡ top ∷ []) × IsTrue (is_complete top.content) × (parts_held top.value ≡ Some parts)
finished_top [] parts h = cc
finished_top (top ∷ []) parts h =
    (elim (is_complete top.content)
    as (λ (b : Bool). is_complete top.content ≡ b → (if b then parts_held top.value else None) ≡ Some parts
    → (top' : Frame) × (top ∷ [] ≡ top' ∷ []) × IsTrue (is_complete top'.content)
    × (parts_held top'.value ≡ Some parts)) [
      | true ↦ λ done w. (top, refl, done, w)
      | false ↦ λ done w. cc
    ]) refl h
finished_top (top ∷ parent ∷ s) parts h = cc

same_value : (tree : Forest) (value : Value) (top : Frame)
    → ◌≡◌ {A = Result (List Frame) Unread} (Ok (behind tree value)) (Ok (top ∷ [])) → value ≡ top.value
same_value tree value top h =
    let frame : record root { content = rest_of document tree; value = value } ≡ top = cc in
    ap (λ (f : Frame). f.value) frame

pub finished_spelled : (tokens : List Token) (s : List Frame) (parts : Parts) → HasTaken s tokens
    → finished_parts s ≡ Some parts → SpellsParts tokens parts
finished_spelled tokens s parts h w =
    let top = finished_top s parts w in
    let shaped =
    whole_shaped tokens (outline_of s) (taken_outline tokens s h)
    (subst (λ m. IsTrue (may_end (outline_of m))) (sym top.1) top.2) in
    let ran : (read_document shaped.0 then (λ p. Ok (behind shaped.0 p.0))) ≡ Ok (top.0 ∷ []) =
    sym (run_document tokens shaped.0 shaped.1) ∙ run_of tokens 0 (root ∷ []) s h ∙ ap Ok top.1 in
    (elim (read_document shaped.0)
    as (λ r. read_document shaped.0 ≡ r → (r then (λ p. Ok (behind shaped.0 p.0))) ≡ Ok (top.0 ∷ [])
    → SpellsParts tokens parts) [
      | Ok p ↦ λ is r. (shaped.0, shaped.1, (p.0, p.1, is, ap parts_held (same_value shaped.0 p.0 top.0 r) ∙ top.3))
      | Err unread ↦ λ is r. cc
    ]) refl ran

-- the frames behind what spells parts
pub spelled_taken : (tokens : List Token) (parts : Parts) → SpellsParts tokens parts
    → (frames : List Frame) × HasTaken frames tokens × (finished_parts frames ≡ Some parts)
spelled_taken tokens parts (tree, shape, reads) = with_value reads
  where
    with_value : ReadsAs tree parts → (frames : List Frame) × HasTaken frames tokens × (finished_parts frames ≡ Some parts)
    with_value (value, at, is, has) = (
      behind tree value,
      behind_of tokens 0 (root ∷ []) (behind tree value)
          (run_document tokens tree shape ∙ ap (λ r. r then (λ p. Ok (behind tree p.0))) is),
      ap (λ (b : Bool). if b then parts_held value else None) (rest_complete tree document shape.fitting) ∙ has,
    )

same_frames : (tokens : List Token) (a b : List Frame) → HasTaken a tokens → HasTaken b tokens → a ≡ b
same_frames tokens a b h k = let same : ◌≡◌ {A = Result (List Frame) Reason} (Ok a) (Ok b) = sym h ∙ k in cc

pub spelled_finished : (tokens : List Token) (s : List Frame) (parts : Parts) → HasTaken s tokens
    → SpellsParts tokens parts → finished_parts s ≡ Some parts
spelled_finished tokens s parts h spells =
    let took = spelled_taken tokens parts spells in
    ap finished_parts (same_frames tokens s took.0 h took.1) ∙ took.2

-- ---- the verdict on a whole list

judges_end : (tokens : List Token) (s : List Frame) → HasTaken s tokens → Judges tokens (message_or_not (finished_parts s))
judges_end tokens s h =
    elim (finished_parts s) as (λ o. finished_parts s ≡ o → Judges tokens (message_or_not o)) [
      | Some parts ↦ λ w. finished_spelled tokens s parts h w
      | None ↦ λ w. (
        taken_viable tokens s h,
        all_read tokens s h,
        λ parts spells. let is = spelled_finished tokens s parts h spells in cc,
      )
    ] refl

judges_from : (tokens before : List Token) (s : List Frame) (at : ℕ) → HasTaken s before → length before ≡ at
    → Judges (before ++ tokens) (verdict_from at s tokens)
judges_from [] before s at h len =
    subst (λ l. Judges l (message_or_not (finished_parts s))) (sym (append-nil before)) (judges_end before s h)
judges_from (t ∷ tokens) before s at h len =
    elim (step s t) as (λ o. step s t ≡ o
    → Judges (before ++ t ∷ tokens) (verdict_then at o (λ m. verdict_from (at + 1) m tokens))) [
      | Err reason ↦ λ w. (before, t, tokens, refl, len, refused_here before s t reason h w)
      | Ok m ↦ λ w.
          subst (λ l. Judges l (verdict_from (at + 1) m tokens)) (cut-append before t tokens)
          (judges_from tokens (before ++ t ∷ []) m (at + 1) (takes_one before s m t h w)
          (length-append before (t ∷ []) ∙ ap (λ n. n + 1) len))
    ] refl

pub verdict_judges : (tokens : List Token) → Judges tokens (verdict_of tokens)
verdict_judges tokens = judges_from tokens [] (root ∷ []) 0 refl refl

verdict-append : (a b : List Token) (s frames : List Frame) (at : ℕ) → frames_behind s a ≡ Ok frames
    → verdict_from at s (a ++ b) ≡ verdict_from (at + length a) frames b
verdict-append [] b s frames at h = let eq : s ≡ frames = cc in
    ap (λ r. verdict_from at r b) eq ∙ ap (λ n. verdict_from n frames b) (omega arith)
verdict-append (t ∷ a) b s frames at h =
    (elim (step s t)
    as (λ o. (o then (λ m. frames_behind m a)) ≡ Ok frames
    → verdict_then at o (λ m. verdict_from (at + 1) m (a ++ b)) ≡ verdict_from (at + length (t ∷ a)) frames b) [
      | Err reason ↦ λ w. cc
      | Ok m ↦ λ w. verdict-append a b m frames (at + 1) w ∙ ap (λ n. verdict_from n frames b) (omega arith)
    ]) h

verdict-taken : (tokens : List Token) (s : List Frame) → HasTaken s tokens
    → verdict_of tokens ≡ message_or_not (finished_parts s)
verdict-taken tokens s h = ap verdict_of (sym (append-nil tokens)) ∙ verdict-append tokens [] (root ∷ []) s 0 h

pub refused_viable : (before : List Token) (t : Token) (reason : Reason) → IsRefused before t reason → IsViable before
refused_viable before t reason x = by x.1
  where
    by : IsMisshapen before t reason ⊎ (IsViable (before ++ t ∷ []) × ClosesUnread before t reason) → IsViable before
    by (inl misshapen) = misshapen.viable
    by (inr closes) = viable_front before (t ∷ []) closes.0

none_finished : (o : Option Parts) → ((parts : Parts) → o ≡ Some parts → ⊥) → o ≡ None
none_finished None never = refl
none_finished (Some parts) never = absurd (never parts refl)

pub one_verdict : (tokens : List Token) (v : Verdict) → Judges tokens v → verdict_of tokens ≡ v
one_verdict tokens (message parts) j =
    let took = spelled_taken tokens parts j in
    verdict-taken tokens took.0 took.1 ∙ ap message_or_not took.2
one_verdict tokens unfinished (viable, all, never) =
    let took = read_taken tokens viable all in
    verdict-taken tokens took.0 took.1
    ∙ ap message_or_not
    (none_finished (finished_parts took.0) (λ parts w. never parts (finished_spelled tokens took.0 parts took.1 w)))
one_verdict tokens (refused at reason) (before, t, rest, split, place, x) =
    let took = read_taken before (refused_viable before t reason x) x.0 in
    ap verdict_of split ∙ verdict-append before (t ∷ rest) (root ∷ []) took.0 0 took.1
    ∙ ap (λ o. verdict_then (0 + length before) o (λ m. verdict_from (0 + length before + 1) m rest))
    (refused_only before took.0 t reason took.1 x)
    ∙ ap (λ n. refused n reason) (omega (arith, place))

-- ---- laws

pub judged_is_computed : JudgedIsComputed
judged_is_computed tokens v = (one_verdict tokens v, λ is. subst (Judges tokens) is (verdict_judges tokens))

pub step_is_refused : StepIsRefused
step_is_refused before s t reason h = (refused_here before s t reason h, refused_only before s t reason h)

pub finished_is_spelled : FinishedIsSpelled
finished_is_spelled tokens s parts h = (finished_spelled tokens s parts h, spelled_finished tokens s parts h)

pub taken_is_read : TakenIsRead
taken_is_read tokens = (
  λ took. (taken_viable tokens took.0 took.1, all_read tokens took.0 took.1),
  λ both. read_taken tokens both.0 both.1,
)
