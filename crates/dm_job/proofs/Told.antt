-- A text that has a first refused line is answered by it.
use Rattle.std.proofs.Common.{◌≡◌, ◌≢◌, ◌+◌, ℕ, Bool, true, false, not, List, [], ◌∷◌, ◌++◌, length, Option, Some, None}
use Rattle.std.proofs.Common.{Result, Ok, Err, refl, sym, ap, subst, ◌∙◌, arith, cond, inl, inr, add-zero}
use Rattle.std.specs.Prelude.{◌⊎◌}
use Rattle.std.specs.List.{list_all}
use Rattle.std.proofs.lemmas.Bool.{and_parts}
use Rattle.dm_base.specs.declared.lines.LineReason.{LineReason}
use Rattle.dm_base.specs.declared.lines.LineReason.TheVariants as reason
use Rattle.dm_job.specs.declared.job.Job.{Job}
use Rattle.dm_job.specs.declared.draft.LinePlace.{LinePlace}
use Rattle.dm_job.specs.declared.draft.LinePlace.TheVariants as place
use Rattle.dm_job.specs.declared.draft.Reading.{Reading}
use Rattle.dm_job.specs.declared.draft.Reading.TheVariants as reading
use Rattle.dm_job.specs.Reading.{reading_after, reading_behind, draft_after, reading_after_all, with_draft}
use Rattle.dm_job.specs.Texts.{is_long, job_in, ended_at, end_at, end_or, job_from, job_of}
use Rattle.dm_job.specs.Laws.{IsRefusedFor, RefusalsAreTold}
use Rattle.dm_job.proofs.Turns.{Read, one_turn}

abbrev At : ℕ → LineReason → Read
At n why = Err (n, why)

-- nothing is taken behind the last line
pub no_line_behind : (r : Reading) (line : List ℕ) (job : Job) → job_in r ≡ Some job
    → reading_after r line ≡ Err reason.Word
unfolding reading_after
no_line_behind reading.First line job e = absurd (cc)
no_line_behind reading.Server line job e = absurd (cc)
no_line_behind (reading.Limits account) line job e = absurd (cc)
no_line_behind (reading.Commands d) line job e = by_place d.place e
  where
    by_place : (at : LinePlace) → ended_at at d.job ≡ Some job → with_draft (draft_after at d line) ≡ Err reason.Word
    by_place place.Between h = absurd (cc)
    by_place place.Package h = absurd (cc)
    by_place place.Container h = absurd (cc)
    by_place place.End h = refl

told_tail : (n : ℕ) (r : Reading) (line : List ℕ) (why : LineReason)
    → ((is_long line ≡ true) × (why ≡ reason.Long)) ⊎ ((is_long line ≡ false) × (why ≡ reason.Cut))
    → job_from n r (line ∷ []) ≡ At n why
told_tail n r line why h = elim h [
  | inl x ↦ ap (λ b. At n (cond b reason.Long reason.Cut)) x.0 ∙ ap (At n) (sym x.1)
  | inr x ↦ ap (λ b. At n (cond b reason.Long reason.Cut)) x.0 ∙ ap (At n) (sym x.1)
]

-- what a line within its limit comes to
abbrev behind_read : ℕ → List (List ℕ) → Result Reading LineReason → Read
behind_read n rest x = reading_behind n x (λ read. end_or n (job_in read) rest (job_from (n + 1) read rest))

told_line : (n : ℕ) (r : Reading) (line next : List ℕ) (others : List (List ℕ)) (why : LineReason)
    → ((is_long line ≡ true) × (why ≡ reason.Long)) ⊎ ((is_long line ≡ false) × (reading_after r line ≡ Err why))
    → job_from n r (line ∷ next ∷ others) ≡ At n why
told_line n r line next others why h = elim h [
  | inl x ↦
      ap (λ b. cond b (At n reason.Long) (behind_read n (next ∷ others) (reading_after r line))) x.0 ∙ ap (At n) (sym x.1)
  | inr x ↦
      ap (λ b. cond b (At n reason.Long) (behind_read n (next ∷ others) (reading_after r line))) x.0
      ∙ ap (behind_read n (next ∷ others)) x.1
]

told_here : (n : ℕ) (r : Reading) (line : List ℕ) (behind : List (List ℕ)) (why : LineReason)
    → IsRefusedFor why None r line behind → job_from n r (line ∷ behind) ≡ At n why
told_here n r line [] why h = told_tail n r line why h
told_here n r line (next ∷ others) why h = told_line n r line next others why h

extra_at : (m : ℕ) (job : Job) (line : List ℕ) (behind : List (List ℕ)) → line ∷ behind ≢ [] ∷ []
    → end_at m job (line ∷ behind) ≡ At m reason.Extra
extra_at m job [] [] h = absurd (h refl)
extra_at m job [] (x ∷ xs) h = refl
extra_at m job (b ∷ bs) behind h = refl

same_reading : (x y : Reading) → ◌≡◌ {A = Result Reading (ℕ × LineReason)} (Ok x) (Ok y) → x ≡ y
same_reading x y e = cc

some_behind : (bs : List (List ℕ)) (line : List ℕ) (behind : List (List ℕ)) → bs ++ line ∷ behind ≡ [] → ⊥
some_behind [] line behind e = cc
some_behind (b ∷ bs) line behind e = cc

not_long : (b : Bool) → not b ≡ true → b ≡ false
not_long true h = absurd (cc)
not_long false h = refl

-- the last line came, and something stands behind it
told_extra : (n : ℕ) (read reached : Reading) (job : Job) (bs : List (List ℕ)) (line : List ℕ) (behind : List (List ℕ))
    (why : LineReason)
    → job_in read ≡ Some job → reading_after_all (n + 1) read bs ≡ Ok reached
    → IsRefusedFor why (job_in reached) reached line behind
    → end_at (n + 1) job (bs ++ line ∷ behind) ≡ At (n + 1 + length bs) why
told_extra n read reached job [] line behind why ends taken refused =
    let same = same_reading read reached taken in
    let at_read = subst (λ r. IsRefusedFor why (job_in r) r line behind) (sym same) refused in
    let extra = subst (λ o. IsRefusedFor why o read line behind) ends at_read in
    extra_at (n + 1) job line behind extra.1
    ∙ ap (At (n + 1)) (sym extra.0) ∙ ap (λ m. At m why) (sym (add-zero (n + 1)))
told_extra n read reached job (c ∷ cs) line behind why ends taken refused =
    let none =
    ap (λ x. reading_behind (n + 1) x (λ next. reading_after_all (n + 1 + 1) next cs)) (no_line_behind read c job ends) in
    absurd (never (sym none ∙ taken))
  where
    never : ◌≡◌ {A = Result Reading (ℕ × LineReason)} (Err (n + 1, reason.Word)) (Ok reached) → ⊥
    never e = cc

abbrev Later : ℕ → List (List ℕ) → List ℕ → List (List ℕ) → LineReason → Reading → Type 0
Later n bs line behind why reached =
    (read : Reading) → job_in read ≡ None → reading_after_all (n + 1) read bs ≡ Ok reached
    → job_from (n + 1) read (bs ++ line ∷ behind) ≡ At (n + 1 + length bs) why

told_behind : (n : ℕ) (r reached : Reading) (b : List ℕ) (bs : List (List ℕ)) (line : List ℕ) (behind : List (List ℕ))
    (why : LineReason)
    → Later n bs line behind why reached → is_long b ≡ false → reading_after_all n r (b ∷ bs) ≡ Ok reached
    → IsRefusedFor why (job_in reached) reached line behind
    → job_from n r (b ∷ (bs ++ line ∷ behind)) ≡ At (n + 1 + length bs) why
told_behind n r reached b bs line behind why later short taken refused =
    one_turn n r b (bs ++ line ∷ behind) (some_behind bs line behind)
    ∙ ap (λ c. cond c (At n reason.Long) (behind_read n (bs ++ line ∷ behind) (reading_after r b))) short
    ∙ by_line (reading_after r b) taken
  where
    by_job : (read : Reading) (o : Option Job) → job_in read ≡ o → reading_after_all (n + 1) read bs ≡ Ok reached
        → end_or n o (bs ++ line ∷ behind) (job_from (n + 1) read (bs ++ line ∷ behind)) ≡ At (n + 1 + length bs) why
    by_job read None is k = later read is k
    by_job read (Some job) is k = told_extra n read reached job bs line behind why is k refused

    by_line : (x : Result Reading LineReason) → reading_behind n x (λ next. reading_after_all (n + 1) next bs) ≡ Ok reached
        → behind_read n (bs ++ line ∷ behind) x ≡ At (n + 1 + length bs) why
    by_line (Ok read) k = by_job read (job_in read) refl k
    by_line (Err w) k = absurd (cc)

told_from : (n : ℕ) (r reached : Reading) (before : List (List ℕ)) (line : List ℕ) (behind : List (List ℕ))
    (why : LineReason)
    → job_in r ≡ None → list_all (λ l. not (is_long l)) before ≡ true → reading_after_all n r before ≡ Ok reached
    → IsRefusedFor why (job_in reached) reached line behind
    → job_from n r (before ++ line ∷ behind) ≡ At (n + length before) why
told_from n r reached [] line behind why none short taken refused =
    let same = same_reading r reached taken in
    let at_r = subst (λ x. IsRefusedFor why (job_in x) x line behind) (sym same) refused in
    told_here n r line behind why (subst (λ o. IsRefusedFor why o r line behind) none at_r)
    ∙ ap (λ m. At m why) (sym (add-zero n))
told_from n r reached (b ∷ bs) line behind why none short taken refused =
    let both = and_parts (not (is_long b)) (list_all (λ l. not (is_long l)) bs) short in
    let next : n + 1 + length bs ≡ n + length (b ∷ bs) = omega arith in
    told_behind n r reached b bs line behind why
    (λ read is k. told_from (n + 1) read reached bs line behind why is both.1 k refused)
    (not_long (is_long b) both.0) taken refused
    ∙ ap (λ m. At m why) next

pub refusals_are_told : RefusalsAreTold
unfolding job_of
refusals_are_told text n why h =
    ap (job_from 1 reading.First) h.are
    ∙ told_from 1 reading.First h.reached h.before h.line h.behind why refl h.short h.taken h.refused
    ∙ ap (λ m. At m why) (sym h.number)
