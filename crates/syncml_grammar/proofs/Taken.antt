-- A builder takes placed tokens exactly as the grammar takes the tokens.
use Rattle.std.specs.Prelude.{◌≡◌, ◌↔◌, List, [], ◌∷◌, ◌++◌, None, Result, Ok, Err, refl}
use Rattle.std.proofs.Common.{sym, ◌∙◌, ap, subst, append_assoc}
use Rattle.wbxml_tokens.specs.declared.reason.Reason.{Reason}
use Rattle.wbxml_tokens.specs.declared.reason.Refusal.{Refusal}
use Rattle.wbxml_tokens.specs.declared.token.Placed.{Placed}
use Rattle.wbxml_tokens.specs.Taking.{taken_all, taken_one, ◌>>=◌}
use Rattle.wbxml_tokens.proofs.Turns.{taken-append}
use Rattle.syncml_grammar.specs.Reads.{◌then◌}
use Rattle.syncml_grammar.specs.Machine.{Frame, step}
use Rattle.syncml_grammar.specs.Building.{Building, no_building, building_after, token_refusal, refused_by, frames_or}
use Rattle.syncml_grammar.specs.Building.{frames_behind, HasTaken, HasBuilt}
use Rattle.syncml_grammar.specs.Refusals.{IsRefused}
use Rattle.syncml_grammar.specs.Taken.{building, tokens, HasRefused, BuiltIsTaken}
use Rattle.syncml_grammar.proofs.Judging.{takes_one, refused_here, refused_only, read_taken, refused_viable}

tokens-append : (a b : List Placed) → tokens (a ++ b) ≡ tokens a ++ tokens b
tokens-append [] b = refl
tokens-append (p ∷ a) b = ap (λ l. p.token ∷ l) (tokens-append a b)

-- ---- one token

went : (b : Building) (p : Placed) (after : List Frame) → b.stopped ≡ None → step b.frames p.token ≡ Ok after
    → taken_one building (token_refusal b p.token) b p ≡ Ok (building_after b p.token)
went b p after going x =
    ap (λ r. taken_one building r b p) (ap (λ s. refused_by s (step b.frames p.token)) going ∙ ap (refused_by None) x)

stopped : (b : Building) (p : Placed) (reason : Reason) → b.stopped ≡ None → step b.frames p.token ≡ Err reason
    → taken_one building (token_refusal b p.token) b p ≡ Err (record { at = p.at; reason = reason })
stopped b p reason going x =
    ap (λ r. taken_one building r b p) (ap (λ s. refused_by s (step b.frames p.token)) going ∙ ap (refused_by None) x)

frames_after : (b : Building) (p : Placed) (after : List Frame) → step b.frames p.token ≡ Ok after
    → (building_after b p.token).frames ≡ after
frames_after b p after x = ap (frames_or b.frames) x

-- ---- all tokens

-- a builder that took tokens which the grammar takes
abbrev pub Took : Building → List Placed → List Frame → Type 0
Took b placed frames = (c : Building) × (taken_all building b placed ≡ Ok c) × (c.frames ≡ frames) × (c.stopped ≡ None)

-- what stands behind the first token of some
abbrev Behind : Result (List Frame) Reason → Building → Placed → List Placed → Type 0
Behind (Ok after) b p placed = taken_all building b (p ∷ placed) ≡ taken_all building (building_after b p.token) placed
Behind (Err reason) b p placed = taken_all building b (p ∷ placed) ≡ Err (record { at = p.at; reason = reason })

behind_one : (b : Building) (p : Placed) (placed : List Placed) (r : Result (List Frame) Reason) → b.stopped ≡ None
    → step b.frames p.token ≡ r → Behind r b p placed
behind_one b p placed (Ok after) going x = ap (λ r. r >>= (λ v. taken_all building v placed)) (went b p after going x)
behind_one b p placed (Err reason) going x = ap (λ r. r >>= (λ v. taken_all building v placed)) (stopped b p reason going x)

took : (placed : List Placed) (b : Building) (frames : List Frame) → b.stopped ≡ None
    → frames_behind b.frames (tokens placed) ≡ Ok frames → Took b placed frames
took [] b frames going h = let same : b.frames ≡ frames = cc in (b, refl, same, going)
took (p ∷ placed) b frames going h =
    (elim (step b.frames p.token)
    as (λ o. step b.frames p.token ≡ o → (o then (λ after. frames_behind after (tokens placed))) ≡ Ok frames
    → Took b (p ∷ placed) frames) [
      | Ok after ↦ λ x rest.
          let c =
          took placed (building_after b p.token) frames going
          (ap (λ m. frames_behind m (tokens placed)) (frames_after b p after x) ∙ rest) in
          (c.0, behind_one b p placed (Ok after) going x ∙ c.1, c.2, c.3)
      | Err reason ↦ λ x rest. cc
    ]) refl h

built_from : (placed : List Placed) (b c : Building) → b.stopped ≡ None → taken_all building b placed ≡ Ok c
    → (c.stopped ≡ None) × (frames_behind b.frames (tokens placed) ≡ Ok c.frames)
built_from [] b c going h =
    let same : b ≡ c = cc in
    (subst (λ (v : Building). v.stopped ≡ None) same going, ap (λ (v : Building). Ok v.frames) same)
built_from (p ∷ placed) b c going h =
    (elim (step b.frames p.token)
    as (λ o. step b.frames p.token ≡ o
    → (c.stopped ≡ None) × ((o then (λ after. frames_behind after (tokens placed))) ≡ Ok c.frames)) [
      | Ok after ↦ λ x.
          let rest =
          built_from placed (building_after b p.token) c going (sym (behind_one b p placed (Ok after) going x) ∙ h) in
          (rest.0, ap (λ m. frames_behind m (tokens placed)) (sym (frames_after b p after x)) ∙ rest.1)
      | Err reason ↦ λ x. let never = sym (behind_one b p placed (Err reason) going x) ∙ h in cc
    ]) refl

-- ---- the refused token

refused_from : (placed before : List Placed) (b : Building) (f : Refusal) → b.stopped ≡ None
    → HasTaken b.frames (tokens before)
    → taken_all building b placed ≡ Err f → HasRefused (before ++ placed) f
refused_from [] before b f going took_all h = cc
refused_from (p ∷ placed) before b f going took_all h =
    (elim (step b.frames p.token) as (λ o. step b.frames p.token ≡ o → HasRefused (before ++ p ∷ placed) f) [
      | Ok after ↦ λ x.
          let frames : HasTaken after (tokens (before ++ p ∷ [])) =
          subst (HasTaken after) (sym (tokens-append before (p ∷ [])))
          (takes_one (tokens before) b.frames after p.token took_all x) in
          subst (λ l. HasRefused l f) (append_assoc before (p ∷ []) placed)
          (refused_from placed (before ++ p ∷ []) (building_after b p.token) f going
          (subst (λ m. HasTaken m (tokens (before ++ p ∷ []))) (sym (frames_after b p after x)) frames)
          (sym (behind_one b p placed (Ok after) going x) ∙ h))
      | Err reason ↦ λ x.
          let told : ◌≡◌ {A = Result Building Refusal} (Err (record { at = p.at; reason = reason })) (Err f) =
          sym (behind_one b p placed (Err reason) going x) ∙ h in
          let is : record { at = p.at; reason = reason } ≡ f = cc in (
            before,
            p,
            placed,
            refl,
            subst (λ (g : Refusal). IsRefused (tokens before) p.token g.reason) is
                (refused_here (tokens before) b.frames p.token reason took_all x),
            sym (ap (λ (g : Refusal). g.at) is),
          )
    ]) refl

refused_where : (placed : List Placed) (f : Refusal) → HasRefused placed f → taken_all building no_building placed ≡ Err f
refused_where placed f (before, p, rest, split, x, place) =
    let read = read_taken (tokens before) (refused_viable (tokens before) p.token f.reason x) x.0 in
    let c = took before no_building read.0 refl read.1 in
    let bad : step c.0.frames p.token ≡ Err f.reason =
    ap (λ m. step m p.token) c.2 ∙ refused_only (tokens before) read.0 p.token f.reason read.1 x in
    let told : record { at = p.at; reason = f.reason } ≡ f =
    ap (λ n. record { at = n; reason = f.reason }) (sym place) in
    ap (taken_all building no_building) split
    ∙ taken-append building no_building before (p ∷ rest)
    ∙ ap (λ r. r >>= (λ v. taken_all building v (p ∷ rest))) c.1
    ∙ behind_one c.0 p rest (Err f.reason) c.3 bad
    ∙ ap Err told

-- ---- the law

built : (placed : List Placed) (b : Building) → taken_all building no_building placed ≡ Ok b → HasBuilt b (tokens placed)
built placed b h = built_from placed no_building b refl h

taken_whole : (placed : List Placed) (frames : List Frame) → HasTaken frames (tokens placed)
    → (b : Building) × (taken_all building no_building placed ≡ Ok b) × (b.frames ≡ frames)
taken_whole placed frames h = let c = took placed no_building frames refl h in (c.0, c.1, c.2)

refused : (placed : List Placed) (f : Refusal) → (taken_all building no_building placed ≡ Err f) ↔ HasRefused placed f
refused placed f = (λ h. refused_from placed [] no_building f refl refl h, refused_where placed f)

pub built_is_taken : BuiltIsTaken
built_is_taken = record { built = built; taken_whole = taken_whole; refused = refused }
