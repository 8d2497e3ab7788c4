-- What the public calls answer, from the step and the verdict that they give.
use Rattle.std.specs.Prelude.{◌≡◌, ◌↔◌, Bool, List, [], ◌∷◌, ◌++◌, IsTrue, Result, Ok, Err, IsOk, OnOk, IfOk}
use Rattle.std.proofs.Common.{sym, ap, subst, ◌∙◌}
use Rattle.dm_base.specs.declared.bytes.Memory.{Memory}
use Rattle.wbxml_tokens.specs.declared.reason.Reason.{Reason}
use Rattle.wbxml_tokens.specs.declared.reason.Stop.{Stop}
use Rattle.wbxml_tokens.specs.declared.reason.Stop.TheVariants as stops
use Rattle.wbxml_tokens.specs.declared.token.Token.{Token}
use Rattle.syncml_shape.specs.declared.outline.ShapeVerdict.{ShapeVerdict}
use Rattle.syncml_shape.specs.Forest.{Forest}
use Rattle.syncml_shape.specs.Shape.{HasShape}
use Rattle.syncml_shape.specs.Faults.{IsRefused}
use Rattle.syncml_shape.specs.Machine.{Frame, step, may_end}
use Rattle.syncml_shape.specs.Outline.{HasTaken, GivesStep, Judges, verdict_of}
use Rattle.syncml_shape.proofs.Judging.{takes_one, refused_here, refused_only, whole_shaped, shaped_whole}
use Rattle.syncml_shape.proofs.Judging.{verdict_judges, one_verdict}

pub answer_taken : (r : Result Unit Stop) (s after : List Frame) (t : Token) (before : List Token)
    → GivesStep r after (step s t) → HasTaken s before
    → OnOk r (HasTaken after (before ++ t ∷ []))
answer_taken (Ok u) s after t before x h = takes_one before s after t h x
answer_taken (Err e) s after t before x h = tt

not_refused : (o : Result (List Frame) Reason) (reason : Reason) → IsOk o → o ≡ Err reason → ⊥
not_refused (Ok s) reason h w = cc
not_refused (Err other) reason h w = cc

pub answer_refused : (r : Result Unit Stop) (s after : List Frame) (t : Token) (before : List Token)
    (reason : Reason) → GivesStep r after (step s t) → HasTaken s before
    → (r ≡ Err (stops.Refused reason)) ↔ IsRefused before t reason
answer_refused (Ok u) s after t before reason x h =
    (λ w. cc, λ no_more. let stopped = refused_only before s t reason h no_more in cc)
answer_refused (Err stops.Memory) s after t before reason x h =
    (λ w. cc, λ no_more. absurd (not_refused (step s t) reason x (refused_only before s t reason h no_more)))
answer_refused (Err (stops.Refused other)) s after t before reason x h = (
  λ w. let same_reason : other ≡ reason = cc in
      subst (IsRefused before t) same_reason (refused_here before s t other h x),
  λ no_more. let stopped = refused_only before s t reason h no_more in let same_reason : other ≡ reason = cc in
      ap (λ w. Err (stops.Refused w)) same_reason,
)

pub answer_whole : (b : Bool) (s : List Frame) (tokens : List Token) → b ≡ may_end s → HasTaken s tokens
    → IsTrue b ↔ ((tree : Forest) × HasShape tokens tree)
answer_whole b s tokens x h =
    (λ w. whole_shaped tokens s h (sym x ∙ w), λ shaped. x ∙ shaped_whole tokens s shaped.0 h shaped.1)

pub answer_exact : (r : Result ShapeVerdict Memory) (tokens : List Token) → IfOk r (λ v. v ≡ verdict_of tokens)
    → IfOk r (λ v. Judges tokens v)
answer_exact (Ok v) tokens x = subst (Judges tokens) (sym x) (verdict_judges tokens)
answer_exact (Err e) tokens x = x

pub answer_only : (r : Result ShapeVerdict Memory) (tokens : List Token) (other : ShapeVerdict)
    → IfOk r (λ v. v ≡ verdict_of tokens) → Judges tokens other → IfOk r (λ v. v ≡ other)
answer_only (Ok v) tokens other x j = x ∙ one_verdict tokens other j
answer_only (Err e) tokens other x j = x
