-- One line of a text, and what is told from the next on.
use Rattle.std.proofs.Common.{◌≡◌, ◌≢◌, ◌+◌, ◌≤◌, ◌⊎◌, ◌++◌, ℕ, true, false, List, [], ◌∷◌, length, Option, Some, None}
use Rattle.std.specs.List.{onto_first}
use Rattle.std.proofs.Common.{Bool, ◌==◌}
use Rattle.std.proofs.Common.{Result, Ok, Err, ◌∙◌, refl, sym, ap, cond, arith, length-append, inl, inr}
use Rattle.dm_base.specs.declared.lines.LineReason.{LineReason}
use Rattle.dm_base.specs.declared.lines.LineReason.TheVariants as reason
use Rattle.dm_fields.specs.declared.errors.LineError.{LineError}
use Rattle.dm_fields.specs.declared.errors.LineError.TheVariants as line_error
use Rattle.dm_fields.specs.Refusing.{Refuses}
use Rattle.dm_job.specs.Texts.{segments, is_long, tail_reason}
use Rattle.dm_job.proofs.Turns.{some_segments}
use Rattle.dm_start.specs.declared.telling.Phase.TheVariants as phase
use Rattle.dm_start.specs.Start.{Section, opening, telling, is_begun}
use Rattle.dm_ddf.specs.declared.errors.DdfError.{DdfError}
use Rattle.dm_ddf.specs.declared.errors.DdfError.TheVariants as ddf_error
use Rattle.dm_ddf.specs.Refusals.{StopsAs, NoLine, IsMore, error_at}
use Rattle.dm_ddf.specs.Texts.{Refused, ToldBefore, lines_from, when_read, when_told, with_nothing_behind, setup_in}

one_turn : {S X : Type 0} (after : S → List ℕ → Result S LineReason) (told : S → Option X) (n : ℕ) (s : S)
    (line : List ℕ) (behind : List (List ℕ)) → (behind ≡ [] → ⊥)
    → lines_from after told n s (line ∷ behind)
    ≡ cond (is_long line) (Err (n, reason.Long))
    (when_read n (after s line)
    (λ read. when_told (n + 1) (told read) behind (lines_from after told (n + 1) read behind)))
one_turn after told n s line [] some = absurd (some refl)
one_turn after told n s line (x ∷ xs) some = refl

short_line : {S X : Type 0} (after : S → List ℕ → Result S LineReason) (told : S → Option X) (n : ℕ) (s : S)
    (line : List ℕ) (behind : List (List ℕ)) (x : Result S LineReason) → (behind ≡ [] → ⊥) → is_long line ≡ false
    → after s line ≡ x
    → lines_from after told n s (line ∷ behind)
    ≡ when_read n x (λ read. when_told (n + 1) (told read) behind (lines_from after told (n + 1) read behind))
short_line after told n s line behind x some short is =
    one_turn after told n s line behind some
    ∙ ap (λ b. cond b (Err (n, reason.Long)) (when_read n (after s line)
    (λ read. when_told (n + 1) (told read) behind (lines_from after told (n + 1) read behind)))) short
    ∙ ap (λ y. when_read n y
    (λ read. when_told (n + 1) (told read) behind (lines_from after told (n + 1) read behind))) is

pub reads_on : {S X : Type 0} (after : S → List ℕ → Result S LineReason) (told : S → Option X) (n : ℕ) (s next : S)
    (text line behind : List ℕ) → segments text ≡ line ∷ segments behind → is_long line ≡ false
    → after s line ≡ Ok next → told next ≡ None
    → lines_from after told n s (segments text) ≡ lines_from after told (n + 1) next (segments behind)
reads_on after told n s next text line behind is short read more =
    ap (lines_from after told n s) is
    ∙ short_line after told n s line (segments behind) (Ok next) (some_segments behind) short read
    ∙ ap (λ o. when_told (n + 1) o (segments behind) (lines_from after told (n + 1) next (segments behind))) more

pub reads_last : {S X : Type 0} (after : S → List ℕ → Result S LineReason) (told : S → Option X) (n : ℕ) (s next : S)
    (x : X) (text line behind : List ℕ) → segments text ≡ line ∷ segments behind → is_long line ≡ false
    → after s line ≡ Ok next → told next ≡ Some x
    → lines_from after told n s (segments text) ≡ Ok (x, n + 1, segments behind)
reads_last after told n s next x text line behind is short read ends =
    ap (lines_from after told n s) is
    ∙ short_line after told n s line (segments behind) (Ok next) (some_segments behind) short read
    ∙ ap (λ o. when_told (n + 1) o (segments behind) (lines_from after told (n + 1) next (segments behind))) ends

pub refused_line : {S X : Type 0} (after : S → List ℕ → Result S LineReason) (told : S → Option X) (n : ℕ) (s : S)
    (why : LineReason) (text line behind : List ℕ) → segments text ≡ line ∷ segments behind → is_long line ≡ false
    → after s line ≡ Err why
    → lines_from after told n s (segments text) ≡ Err (n, why)
refused_line after told n s why text line behind is short read =
    ap (lines_from after told n s) is
    ∙ short_line after told n s line (segments behind) (Err why) (some_segments behind) short read

-- where a line isn't taken
pub stops_at : {S X : Type 0} (after : S → List ℕ → Result S LineReason) (told : S → Option X) (n : ℕ) (s : S)
    (e : LineError) (text line behind : List ℕ) → segments text ≡ line ∷ segments behind → is_long line ≡ false
    → Refuses (after s line) e
    → StopsAs (lines_from after told n s (segments text)) (error_at n e)
stops_at after told n s (line_error.Bad why) text line behind is short read =
    refused_line after told n s why text line behind is short read
stops_at after told n s line_error.Memory text line behind is short read = tt

-- where no line is left
pub stops_before : {S X : Type 0} (after : S → List ℕ → Result S LineReason) (told : S → Option X) (n : ℕ) (s : S)
    (segs : List (List ℕ)) (e : DdfError) → NoLine n segs e → StopsAs (lines_from after told n s segs) e
stops_before after told n s segs ddf_error.Memory h = tt
stops_before after told n s segs (ddf_error.Bad m why) h =
    elim h.1 [
      | inl cut ↦
          ap (lines_from after told n s) cut.1 ∙ ap (λ r. Err (n, r)) (sym cut.2) ∙ ap (λ k. Err (k, why)) (sym h.0)
      | inr long ↦
          ap (lines_from after told n s) long.2 ∙ one_turn after told n s long.0 long.1 long.3
          ∙ ap (λ b. cond b (Err (n, reason.Long)) (when_read n (after s long.0)
          (λ read. when_told (n + 1) (told read) long.1 (lines_from after told (n + 1) read long.1)))) long.4
          ∙ ap (λ r. Err (n, r)) (sym long.5) ∙ ap (λ k. Err (k, why)) (sym h.0)
    ]

pub stops_same : {X : Type 0} (w v : Result X Refused) (e : DdfError) → w ≡ v → StopsAs v e → StopsAs w e
stops_same w v (ddf_error.Bad n why) is h = is ∙ h
stops_same w v ddf_error.Memory is h = tt

pub shorter : (text line behind : List ℕ) → text ≡ line ++ 10 ∷ behind → length behind + 1 ≤ length text
shorter text line behind is =
    let long = ap length is in
    let parts = length-append line (10 ∷ behind) in
    omega (arith, long, parts)

pub not_begun : (s : Section) → is_begun s ≡ false → setup_in s ≡ None
not_begun (opening h) e = refl
not_begun (telling phase.Accounts told) e = refl
not_begun (telling phase.Nodes told) e = refl
not_begun (telling phase.Begun told) e = cc

-- ---- behind the last line

pub nothing_is : (text : List ℕ) → length text ≡ 0 → segments text ≡ [] ∷ []
nothing_is [] h = refl
nothing_is (b ∷ bs) h = absurd (omega (arith, h))

pub nothing_else : (text : List ℕ) → (length text ≡ 0 → ⊥) → IsMore (segments text)
nothing_else [] some = absurd (some refl)
nothing_else (b ∷ bs) some = by_feed (b == 10) (segments bs) (some_segments bs)
  where
    by_feed : (f : Bool) (s : List (List ℕ)) → (s ≡ [] → ⊥) → IsMore (cond f ([] ∷ s) (onto_first b s))
    by_feed true [] h = absurd (h refl)
    by_feed true (x ∷ xs) h = tt
    by_feed false [] h = tt
    by_feed false (x ∷ xs) h = tt

pub more_is_refused : {X : Type 0} (n : ℕ) (x : X) (segs : List (List ℕ)) → IsMore segs
    → with_nothing_behind n x segs ≡ Err (n, reason.Extra)
more_is_refused n x [] h = refl
more_is_refused n x ([] ∷ []) h = absurd h
more_is_refused n x ([] ∷ y ∷ ys) h = refl
more_is_refused n x ((b ∷ bs) ∷ ys) h = refl
