-- The text of a job is read.
use Rattle.std.proofs.Common.{◌≡◌, ◌≤◌, ◌+◌, ◌==◌, ℕ, Bool, true, false, not, List, [], ◌∷◌, ◌++◌, length, Option, Some}
use Rattle.std.proofs.Common.{None, Result, Ok, Err, refl, sym, ap, ◌∙◌, cond, append_assoc, flat_map, ltb-true}
use Rattle.std.proofs.Common.{arith}
use Rattle.std.specs.List.{AllByRecursion, list_all, onto_first}
use Rattle.std.proofs.lemmas.Bool.{and_parts}
use Rattle.std.proofs.lemmas.List.Splits.{slice_split-cons_yes, slice_split-cons_no}
use Rattle.dm_base.specs.declared.lines.LineReason.{LineReason}
use Rattle.dm_base.specs.declared.lines.LineReason.TheVariants as reason
use Rattle.dm_job.specs.declared.job.Job.{Job}
use Rattle.dm_job.specs.declared.draft.Reading.{Reading}
use Rattle.dm_job.specs.declared.draft.Reading.TheVariants as reading
use Rattle.dm_job.specs.Reading.{reading_after, reading_behind, reading_after_all}
use Rattle.dm_job.specs.Texts.{segments, is_long, job_in, end_at, end_or, job_from, job_of}
use Rattle.dm_job.specs.Grammar.{IsLine, with_feed}
use Rattle.dm_job.specs.Laws.{JobsAreRead}
use Rattle.dm_job.proofs.Taken.{job_taken}
use Rattle.dm_job.proofs.Told.{no_line_behind}
use Rattle.dm_job.proofs.Turns.{Read, one_turn}

not_feed : (b : Bool) → not b ≡ true → b ≡ false
not_feed true h = absurd (cc)
not_feed false h = refl

split_line : (line rest : List ℕ) → list_all (λ b. not (b == 10)) line ≡ true
    → segments (line ++ 10 ∷ rest) ≡ line ∷ segments rest
split_line [] rest h = slice_split-cons_yes (λ b. b == 10) 10 rest refl
split_line (b ∷ bs) rest h =
    let both = and_parts (not (b == 10)) (list_all (λ b. not (b == 10)) bs) h in
    slice_split-cons_no (λ x. x == 10) b (bs ++ 10 ∷ rest) (not_feed (b == 10) both.0)
    ∙ ap (onto_first b) (split_line bs rest both.1)

segments_of : (lines : List (List ℕ)) → AllByRecursion IsLine lines → segments (flat_map with_feed lines) ≡ lines ++ [] ∷ []
segments_of [] h = refl
segments_of (l ∷ ls) h =
    ap segments (append_assoc l (10 ∷ []) (flat_map with_feed ls)) ∙ split_line l (flat_map with_feed ls) h.0.feedless
    ∙ ap (λ s. l ∷ s) (segments_of ls h.1)

is_short : (line : List ℕ) → length line ≤ 8400000 → is_long line ≡ false
is_short line h = by_test (is_long line) refl
  where
    by_test : (b : Bool) → is_long line ≡ b → is_long line ≡ false
    by_test false is = is
    by_test true is = let more = ltb-true 8400000 (length line) is in absurd (omega (arith, h, more))

abbrev As : Job → Read
As job = Ok job

same_reading : (x y : Reading) → ◌≡◌ {A = Result Reading (ℕ × LineReason)} (Ok x) (Ok y) → x ≡ y
same_reading x y e = cc

same_job : (x y : Job) → Some x ≡ Some y → x ≡ y
same_job x y e = cc

some_behind : (lines : List (List ℕ)) → lines ++ [] ∷ [] ≡ [] → ⊥
some_behind [] e = cc
some_behind (l ∷ ls) e = cc

-- the last line came, so none follows
last_read : (n : ℕ) (read reached : Reading) (given job : Job) (lines : List (List ℕ)) → job_in read ≡ Some given
    → reading_after_all n read lines ≡ Ok reached → job_in reached ≡ Some job → end_at n given (lines ++ [] ∷ []) ≡ As job
last_read n read reached given job [] is taken ends =
    let same = same_reading read reached taken in
    ap As (same_job given job (sym is ∙ ap job_in same ∙ ends))
last_read n read reached given job (c ∷ cs) is taken ends =
    let none = ap (λ x. reading_behind n x (λ next. reading_after_all (n + 1) next cs)) (no_line_behind read c given is) in
    absurd (never (sym none ∙ taken))
  where
    never : ◌≡◌ {A = Result Reading (ℕ × LineReason)} (Err (n, reason.Word)) (Ok reached) → ⊥
    never e = cc

abbrev Later : ℕ → List (List ℕ) → Reading → Job → Type 0
Later n lines reached job =
    (read : Reading) → job_in read ≡ None → reading_after_all (n + 1) read lines ≡ Ok reached
    → job_from (n + 1) read (lines ++ [] ∷ []) ≡ As job

abbrev behind_read : ℕ → List (List ℕ) → Result Reading LineReason → Read
behind_read n rest x = reading_behind n x (λ read. end_or n (job_in read) rest (job_from (n + 1) read rest))

one_read : (n : ℕ) (r reached : Reading) (l : List ℕ) (ls : List (List ℕ)) (job : Job) → Later n ls reached job
    → is_long l ≡ false → reading_after_all n r (l ∷ ls) ≡ Ok reached → job_in reached ≡ Some job
    → job_from n r (l ∷ (ls ++ [] ∷ [])) ≡ As job
one_read n r reached l ls job later short taken ends =
    one_turn n r l (ls ++ [] ∷ []) (some_behind ls)
    ∙ ap (λ c. cond c (Err (n, reason.Long)) (behind_read n (ls ++ [] ∷ []) (reading_after r l))) short
    ∙ by_line (reading_after r l) taken
  where
    by_job : (read : Reading) (o : Option Job) → job_in read ≡ o → reading_after_all (n + 1) read ls ≡ Ok reached
        → end_or n o (ls ++ [] ∷ []) (job_from (n + 1) read (ls ++ [] ∷ [])) ≡ As job
    by_job read None is k = later read is k
    by_job read (Some given) is k = last_read (n + 1) read reached given job ls is k ends

    by_line : (x : Result Reading LineReason) → reading_behind n x (λ next. reading_after_all (n + 1) next ls) ≡ Ok reached
        → behind_read n (ls ++ [] ∷ []) x ≡ As job
    by_line (Ok read) k = by_job read (job_in read) refl k
    by_line (Err why) k = absurd (cc)

read_from : (n : ℕ) (r reached : Reading) (lines : List (List ℕ)) (job : Job) → job_in r ≡ None
    → AllByRecursion IsLine lines → reading_after_all n r lines ≡ Ok reached → job_in reached ≡ Some job
    → job_from n r (lines ++ [] ∷ []) ≡ As job
read_from n r reached [] job none right taken ends =
    absurd (never (sym none ∙ ap job_in (same_reading r reached taken) ∙ ends))
  where
    never : None ≡ Some job → ⊥
    never e = cc
read_from n r reached (l ∷ ls) job none right taken ends =
    one_read n r reached l ls job (λ read is k. read_from (n + 1) read reached ls job is right.1 k ends)
    (is_short l right.0.short) taken ends

pub jobs_are_read : JobsAreRead
unfolding job_of
jobs_are_read text job t =
    let c = job_taken t.lines job t.job_is in
    ap (λ x. job_from 1 reading.First (segments x)) t.is
    ∙ ap (job_from 1 reading.First) (segments_of t.lines t.right)
    ∙ read_from 1 reading.First c.reached t.lines job refl t.right c.taken c.ends
