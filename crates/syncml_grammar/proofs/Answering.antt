-- What the public calls answer, from the steps that the builder takes.
use Rattle.std.proofs.Common.{arith, ◌≡◌, ◌↔◌, ◌≤◌, List, Option, Some, None, Result, Ok, Err, OnOk, IfOk, refl, sym}
use Rattle.std.proofs.Common.{ap, subst, ◌∙◌}
use Rattle.std.specs.Prelude.{ok_or}
use Rattle.std.specs.Result.{result_ok}
use Rattle.dm_base.specs.Limits.{text_limit}
use Rattle.dm_base.specs.declared.bytes.Memory.{Memory}
use Rattle.wbxml_tokens.specs.declared.reason.Reason.{Reason}
use Rattle.wbxml_tokens.specs.declared.token.Token.{Token}
use Rattle.wbxml_tokens.specs.Taking.{TakesToken}
use Rattle.syncml_shape.specs.Forest.{spelling}
use Rattle.syncml_types.specs.Message.{Parts}
use Rattle.syncml_types.specs.Fitness.{IsFit}
use Rattle.wbxml_tokens.specs.declared.reason.Stop.{Stop}
use Rattle.wbxml_tokens.specs.declared.reason.Stop.TheVariants as stops
use Rattle.syncml_grammar.specs.declared.verdict.MessageVerdict.{MessageVerdict}
use Rattle.syncml_grammar.specs.Reads.{SpellsParts, parts_held}
use Rattle.syncml_grammar.specs.Machine.{Frame, step, finished_parts}
use Rattle.syncml_grammar.specs.Building.{Building, IsBuilding, HasBuilt, built_by, unless_stopped, building_after}
use Rattle.syncml_grammar.specs.Building.{frames_or, refused_by, token_refusal, reason_told, IsLacking, text_length}
use Rattle.syncml_grammar.specs.Refusals.{Judges, verdict_of}
use Rattle.syncml_grammar.specs.Refusals.{Verdict as Judgement}
use Rattle.syncml_grammar.specs.Verdicts.{judgement, GivesOne}
use Rattle.syncml_grammar.specs.Laws.{ReadIsFit}
use Rattle.syncml_grammar.proofs.Judging.{finished_spelled, spelled_finished, verdict_judges, one_verdict}

same_parts : {a b : Parts} (o : Option Parts) → o ≡ Some a → o ≡ Some b → a ≡ b
same_parts None h k = cc
same_parts (Some x) h k = cc

-- the message behind tokens is fit
pub fit_behind : ReadIsFit → (b : Building) (parts : Parts) → IsBuilding b → b.stopped ≡ None
    → finished_parts b.frames ≡ Some parts
    → IsFit parts.header parts.body
fit_behind law b parts is_building going fin =
    let was = is_building going in
    let spells = finished_spelled was.0 b.frames parts was.1 fin in
    let shape = spells.1 in
    let read = spells.2 in
    let short : text_length (spelling spells.0) ≤ text_limit =
    subst (λ tokens. text_length tokens ≤ text_limit) shape.spelled (omega (arith, was.2)) in
    let fit = law spells.0 read.0 read.1 shape.fitting read.2 short in
    subst (λ (p : Parts). IsFit p.header p.body) (same_parts (parts_held read.0) fit.1 read.3) fit.2

-- what stands for nothing, and is left out again
pub found_again : {E : Type 0} (found : Option Parts) (e : E) → result_ok (ok_or found e) ≡ found
found_again None e = refl
found_again (Some x) e = refl

pub finish_spelled : (r : Option Parts) (b : Building) (tokens : List Token) (parts : Parts) → r ≡ built_by b
    → HasBuilt b tokens
    → (r ≡ Some parts) ↔ SpellsParts tokens parts
finish_spelled r b tokens parts is has =
    let whole : r ≡ finished_parts b.frames = is ∙ ap (λ s. unless_stopped s (finished_parts b.frames)) has.0 in (
      λ w. finished_spelled tokens b.frames parts has.1 (sym whole ∙ w),
      λ spells. whole ∙ spelled_finished tokens b.frames parts has.1 spells,
    )

ok_step : (o : Result (List Frame) Reason) (frames : List Frame) → refused_by None o ≡ None
    → o ≡ Ok (frames_or frames o)
ok_step (Ok after) frames h = refl
ok_step (Err reason) frames h = cc

err_step : (o : Result (List Frame) Reason) (reason : Reason) → refused_by None o ≡ Some reason → o ≡ Err reason
err_step (Ok after) reason h = cc
err_step (Err other) reason h = cc

-- one token, put into a builder that hasn't stopped
pub one_step : (r : Result Unit Stop) (old new : Building) (t : Token) → old.stopped ≡ None
    → OnOk r (new ≡ building_after old t)
    → TakesToken reason_told IsLacking r old new (token_refusal old t) → GivesOne r old new t
one_step (Ok u) old new t going is takes =
    let taken =
    ok_step (step old.frames t) old.frames (subst (λ s. refused_by s (step old.frames t) ≡ None) going takes) in
    (taken ∙ ap (λ (b : Building). Ok b.frames) (sym is), ap (λ (b : Building). b.stopped) is ∙ going)
one_step (Err stops.Memory) old new t going is takes = tt
one_step (Err (stops.Refused reason)) old new t going is takes =
    err_step (step old.frames t) reason (subst (λ s. refused_by s (step old.frames t) ≡ Some reason) going takes)

pub answer_exact : (r : Result MessageVerdict Memory) (tokens : List Token) → IfOk r (λ v. judgement v ≡ verdict_of tokens)
    → IfOk r (λ v. Judges tokens (judgement v))
answer_exact (Ok v) tokens x = subst (Judges tokens) (sym x) (verdict_judges tokens)
answer_exact (Err e) tokens x = x

pub answer_only : (r : Result MessageVerdict Memory) (tokens : List Token) (other : Judgement)
    → IfOk r (λ v. judgement v ≡ verdict_of tokens) → Judges tokens other
    → IfOk r (λ v. judgement v ≡ other)
answer_only (Ok v) tokens other x j = x ∙ one_verdict tokens other j
answer_only (Err e) tokens other x j = x
