-- A text that is read: its lines are taken one after another, and the last of them is `end`.
use Rattle.std.proofs.Common.{◌≡◌, ◌+◌, ℕ, Bool, true, false, not, List, [], ◌∷◌, ◌++◌, Option, Some, None}
use Rattle.std.proofs.Common.{Result, Ok}
use Rattle.std.proofs.Common.{Err, refl, ap, ◌∙◌, cond}
use Rattle.std.specs.List.{list_all}
use Rattle.std.proofs.lemmas.Bool.{and_from}
use Rattle.dm_base.specs.declared.lines.LineReason.{LineReason}
use Rattle.dm_base.specs.declared.lines.LineReason.TheVariants as reason
use Rattle.dm_job.specs.declared.job.Job.{Job}
use Rattle.dm_job.specs.declared.draft.Reading.{Reading}
use Rattle.dm_job.specs.declared.draft.Reading.TheVariants as reading
use Rattle.dm_job.specs.Reading.{reading_after, reading_behind, reading_after_all}
use Rattle.dm_job.specs.Texts.{segments, is_long, job_in, end_at, end_or, job_from, job_of}
use Rattle.dm_job.proofs.Turns.{some_segments}

abbrev Read : Type 0
Read = Result Job (ℕ × LineReason)

abbrev As : Job → Read
As job = Ok job

-- from line n on
pub record Accepted (n : ℕ) (r : Reading) (segs : List (List ℕ)) (job : Job) : Type 0 where
  pub lines : List (List ℕ)
  pub are : segs ≡ lines ++ [] ∷ []
  pub short : list_all (λ l. not (is_long l)) lines ≡ true
  pub reached : Reading
  pub taken : reading_after_all n r lines ≡ Ok reached
  pub ends : job_in reached ≡ Some job

same_job : (a b : Job) → As a ≡ As b → a ≡ b
same_job a b e = cc

at_end : (n : ℕ) (given : Job) (next : List ℕ) (others : List (List ℕ)) (job : Job)
    → end_at n given (next ∷ others) ≡ As job
    → (next ∷ others ≡ [] ∷ []) × (given ≡ job)
at_end n given [] [] job e = (refl, same_job given job e)
at_end n given [] (x ∷ xs) job e = absurd (cc)
at_end n given (b ∷ bs) others job e = absurd (cc)

abbrev Later : ℕ → List ℕ → List (List ℕ) → Job → Type 0
Later n next others job =
    (read : Reading) → job_in read ≡ None → job_from (n + 1) read (next ∷ others) ≡ As job
    → Accepted (n + 1) read (next ∷ others) job

one_more : (n : ℕ) (r read : Reading) (line : List ℕ) (segs : List (List ℕ)) (job : Job)
    → is_long line ≡ false → reading_after r line ≡ Ok read → Accepted (n + 1) read segs job
    → Accepted n r (line ∷ segs) job
one_more n r read line segs job short took rest = record {
  lines = line ∷ rest.lines;
  are = ap (λ s. line ∷ s) rest.are;
  short = and_from _ _ (ap not short) rest.short;
  reached = rest.reached;
  taken = ap (λ x. reading_behind n x (λ next. reading_after_all (n + 1) next rest.lines)) took ∙ rest.taken;
  ends = rest.ends;
}

last_one : (n : ℕ) (r read : Reading) (line : List ℕ) (segs : List (List ℕ)) (job : Job) → is_long line ≡ false
    → reading_after r line ≡ Ok read → segs ≡ [] ∷ [] → job_in read ≡ Some job → Accepted n r (line ∷ segs) job
last_one n r read line segs job short took is ends = record {
  lines = line ∷ [];
  are = ap (λ s. line ∷ s) is;
  short = and_from _ true (ap not short) refl;
  reached = read;
  taken = ap (λ x. reading_behind n x (λ next. reading_after_all (n + 1) next [])) took;
  ends = ends;
}

taken_line : (n : ℕ) (r read : Reading) (line next : List ℕ) (others : List (List ℕ)) (job : Job)
    → Later n next others job → reading_after r line ≡ Ok read → is_long line ≡ false
    → end_or n (job_in read) (next ∷ others) (job_from (n + 1) read (next ∷ others)) ≡ As job
    → Accepted n r (line ∷ next ∷ others) job
taken_line n r read line next others job rest took short e = by_job (job_in read) refl e
  where
    by_job : (o : Option Job) → job_in read ≡ o
        → end_or n o (next ∷ others) (job_from (n + 1) read (next ∷ others)) ≡ As job
        → Accepted n r (line ∷ next ∷ others) job
    by_job None is h = one_more n r read line (next ∷ others) job short took (rest read is h)
    by_job (Some given) is h =
        let end = at_end (n + 1) given next others job h in
        last_one n r read line (next ∷ others) job short took end.0 (is ∙ ap Some end.1)

any_line : (n : ℕ) (r : Reading) (line next : List ℕ) (others : List (List ℕ)) (job : Job)
    → Later n next others job → job_from n r (line ∷ next ∷ others) ≡ As job → Accepted n r (line ∷ next ∷ others) job
any_line n r line next others job rest e = by_length (is_long line) refl e
  where
    by_read : (x : Result Reading LineReason) → reading_after r line ≡ x → is_long line ≡ false
        → reading_behind n x (λ read. end_or n (job_in read) (next ∷ others) (job_from (n + 1) read (next ∷ others)))
        ≡ As job
        → Accepted n r (line ∷ next ∷ others) job
    by_read (Ok read) took short h = taken_line n r read line next others job rest took short h
    by_read (Err why) took short h = absurd (cc)

    by_length : (b : Bool) → is_long line ≡ b
        → cond b (Err (n, reason.Long)) (reading_behind n (reading_after r line)
        (λ read. end_or n (job_in read) (next ∷ others) (job_from (n + 1) read (next ∷ others)))) ≡ As job
        → Accepted n r (line ∷ next ∷ others) job
    by_length true long h = absurd (cc)
    by_length false short h = by_read (reading_after r line) refl short h

accepted_from : (n : ℕ) (r : Reading) (line : List ℕ) (others : List (List ℕ)) (job : Job)
    → job_from n r (line ∷ others) ≡ As job → Accepted n r (line ∷ others) job
accepted_from n r line [] job e = absurd (cc)
accepted_from n r line (next ∷ others) job e =
    any_line n r line next others job (λ read is h. accepted_from (n + 1) read next others job h) e

pub accepted : (text : List ℕ) (job : Job) → job_of text ≡ Ok job → Accepted 1 reading.First (segments text) job
unfolding job_of
accepted text job e = by_segments (segments text) refl e
  where
    by_segments : (s : List (List ℕ)) → segments text ≡ s → job_from 1 reading.First s ≡ As job
        → Accepted 1 reading.First s job
    by_segments [] is h = absurd (some_segments text is)
    by_segments (line ∷ others) is h = accepted_from 1 reading.First line others job h
