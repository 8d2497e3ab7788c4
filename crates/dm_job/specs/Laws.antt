-- What is read and refused, beside the grammar, and what holds of every job that is read.
use Rattle.std.specs.Prelude.{◌≡◌, ◌≢◌, ◌+◌, ◌⊎◌, ℕ, true, false, not, List, [], ◌∷◌, ◌++◌}
use Rattle.std.specs.Prelude.{length, Option, Some, None, Ok, Err}
use Rattle.std.specs.List.{list_all}
use Rattle.dm_base.specs.declared.lines.LineReason.{LineReason}
use Rattle.dm_base.specs.declared.lines.LineReason.TheVariants as reason
use Rattle.dm_job.specs.declared.job.Job.{Job}
use Rattle.dm_job.specs.declared.draft.Reading.{Reading}
use Rattle.dm_job.specs.declared.draft.Reading.TheVariants as reading
use Rattle.dm_job.specs.Reading.{reading_after, reading_after_all}
use Rattle.dm_job.specs.Texts.{segments, is_long, job_in, job_of}
use Rattle.dm_job.specs.Grammar.{IsJobText}
use Rattle.dm_job.specs.Sound.{IsSoundJob}

-- ---- both ways

-- the text of a job is read as this job
abbrev pub JobsAreRead : Type 0
JobsAreRead = (text : List ℕ) (job : Job) → IsJobText text job → job_of text ≡ Ok job

-- and nothing else is
abbrev pub OnlyJobsAreRead : Type 0
OnlyJobsAreRead = (text : List ℕ) (job : Job) → job_of text ≡ Ok job → IsJobText text job

-- a line within its limit is refused for what it says where it stands, or because no line feed ends it
abbrev pub IsRefusedHere : LineReason → Reading → List ℕ → List (List ℕ) → Type 0
IsRefusedHere why r line [] = why ≡ reason.Cut
IsRefusedHere why r line (next ∷ others) = reading_after r line ≡ Err why

-- where the lines before have come so far, and these segments stand behind it: nothing may stand behind `end`
abbrev pub IsRefusedFor : LineReason → Option Job → Reading → List ℕ → List (List ℕ) → Type 0
IsRefusedFor why (Some job) r line behind = (why ≡ reason.Extra) × (line ∷ behind ≢ [] ∷ [])
IsRefusedFor why None r line behind =
    ((is_long line ≡ true) × (why ≡ reason.Long)) ⊎ ((is_long line ≡ false) × IsRefusedHere why r line behind)

-- the first line that is refused: those before it are taken, each within its limit
pub record IsRefusedJob (text : List ℕ) (n : ℕ) (why : LineReason) : Type 0 where
  pub before : List (List ℕ)
  pub line : List ℕ
  pub behind : List (List ℕ)
  pub are : segments text ≡ before ++ line ∷ behind
  pub number : n ≡ 1 + length before
  pub short : list_all (λ l. not (is_long l)) before ≡ true
  pub reached : Reading
  pub taken : reading_after_all 1 reading.First before ≡ Ok reached
  pub refused : IsRefusedFor why (job_in reached) reached line behind

abbrev pub RefusalsAreFirst : Type 0
RefusalsAreFirst = (text : List ℕ) (n : ℕ) (why : LineReason) → job_of text ≡ Err (n, why) → IsRefusedJob text n why

abbrev pub RefusalsAreTold : Type 0
RefusalsAreTold = (text : List ℕ) (n : ℕ) (why : LineReason) → IsRefusedJob text n why → job_of text ≡ Err (n, why)

-- every job that is read can be sent
abbrev pub JobsAreSound : Type 0
JobsAreSound = (text : List ℕ) (job : Job) → job_of text ≡ Ok job → IsSoundJob job
