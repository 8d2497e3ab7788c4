-- Readings that lines lead to, and the jobs that they end with.
use Rattle.std.proofs.Common.{◌≡◌, ◌+◌, ◌∙◌, ℕ, List, [], ◌∷◌, ◌++◌, Some, Result, Ok, Err, refl, ap}
use Rattle.dm_base.specs.declared.lines.LineReason.{LineReason}
use Rattle.dm_job.specs.declared.job.Job.{Job}
use Rattle.dm_job.specs.declared.draft.Reading.{Reading}
use Rattle.dm_job.specs.declared.draft.Reading.TheVariants as reading
use Rattle.dm_job.specs.Measures.{IsUnderWay}
use Rattle.dm_job.specs.Reading.{reading_after, reading_behind, reading_after_all}
use Rattle.dm_job.specs.Sound.{IsSoundJob}
use Rattle.dm_job.specs.Texts.{job_in}
use Rattle.dm_job.proofs.Going.{can_go_on}
use Rattle.dm_job.proofs.Soundness.{lines_sound, job_sound}

abbrev Read : Type 0
Read = Result Reading (ℕ × LineReason)

-- one line more
line_added : (n : ℕ) (r reached next : Reading) (lines : List (List ℕ)) (line : List ℕ)
    → reading_after_all n r lines ≡ Ok reached → reading_after reached line ≡ Ok next
    → reading_after_all n r (lines ++ line ∷ []) ≡ Ok next
line_added n r reached next [] line e k = ap (λ s. reading_behind n (reading_after s line) (λ x. Ok x)) (same r reached e)
    ∙ ap (λ x. reading_behind n x (λ y. Ok y)) k
  where
    same : (x y : Reading) → ◌≡◌ {A = Read} (Ok x) (Ok y) → x ≡ y
    same x y h = cc
line_added n r reached next (first ∷ lines) line e k =
    by_first (reading_after r first) refl e (λ s h. line_added (n + 1) s reached next lines line h k)
  where
    by_first : (x : Result Reading LineReason) → reading_after r first ≡ x
        → reading_behind n x (λ s. reading_after_all (n + 1) s lines) ≡ Ok reached
        → ((s : Reading) → reading_after_all (n + 1) s lines ≡ Ok reached
        → reading_after_all (n + 1) s (lines ++ line ∷ []) ≡ Ok next)
        → reading_behind n (reading_after r first) (λ s. reading_after_all (n + 1) s (lines ++ line ∷ [])) ≡ Ok next
    by_first (Ok s) is h rest =
        ap (λ x. reading_behind n x (λ s. reading_after_all (n + 1) s (lines ++ line ∷ []))) is ∙ rest s h
    by_first (Err why) is h rest = absurd (cc)

pub going_more : (r next : Reading) (line : List ℕ) → reading_after r line ≡ Ok next → IsUnderWay r → IsUnderWay next
going_more r next line e h = record {
  can_go_on = can_go_on r next line e h.can_go_on;
  reached = record {
    lines = h.reached.lines ++ line ∷ [];
    taken = line_added 1 reading.First r next h.reached.lines line h.reached.taken e;
  };
}

-- the job of a reader that has ended
pub reached_sound : (r : Reading) (job : Job) → IsUnderWay r → job_in r ≡ Some job → IsSoundJob job
reached_sound r job h e = job_sound r job e (lines_sound 1 reading.First r h.reached.lines h.reached.taken tt)
