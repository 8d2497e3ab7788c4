-- The text of a job, as lines that are each ended by a line feed (byte 10).
use Rattle.std.specs.Prelude.{◌≡◌, ◌==◌, ◌+◌, ⊤, ℕ, Bool, if◌then◌else◌, nat_lt, List, [], ◌∷◌, length, Option}
use Rattle.std.specs.Prelude.{Some, None, is_some, Result, Ok, Err}
use Rattle.std.specs.List.{slice_split}
use Rattle.dm_base.specs.Lines.{line_limit}
use Rattle.dm_base.specs.declared.lines.LineReason.{LineReason}
use Rattle.dm_base.specs.declared.lines.LineReason.TheVariants as reason
use Rattle.dm_fields.specs.declared.errors.LineError.{LineError}
use Rattle.dm_fields.specs.declared.errors.LineError.TheVariants as line_error
use Rattle.dm_job.specs.declared.errors.JobError.{JobError}
use Rattle.dm_job.specs.declared.errors.JobError.TheVariants as job_error
use Rattle.dm_job.specs.declared.job.Job.{Job}
use Rattle.dm_job.specs.declared.draft.LinePlace.{LinePlace}
use Rattle.dm_job.specs.declared.draft.LinePlace.TheVariants as place
use Rattle.dm_job.specs.declared.draft.Reading.{Reading}
use Rattle.dm_job.specs.declared.draft.Reading.TheVariants as reading
use Rattle.dm_job.specs.Reading.{reading_after, reading_behind}

-- what stands between line feeds: the lines, and behind them what no line feed ends
abbrev pub segments : List ℕ → List (List ℕ)
segments text = slice_split (λ b. b == 10) text

-- more than a line may have, without its line feed
abbrev pub is_long : List ℕ → Bool
is_long line = nat_lt line_limit (length line)

abbrev pub ended_at : LinePlace → Job → Option Job
ended_at place.End job = Some job
ended_at other job = None

-- the job, where `end` came
abbrev pub job_in : Reading → Option Job
job_in reading.First = None
job_in reading.Server = None
job_in (reading.Limits account) = None
job_in (reading.Commands d) = ended_at d.place d.job

-- the last line came
abbrev pub is_ended : Reading → Bool
is_ended r = is_some (job_in r)

-- nothing stands behind the `end` line
abbrev pub end_at : ℕ → Job → List (List ℕ) → Result Job (ℕ × LineReason)
end_at n job ([] ∷ []) = Ok job
end_at n job other = Err (n, reason.Extra)

-- line n was read, and others follow
abbrev pub end_or : ℕ → Option Job → List (List ℕ) → Result Job (ℕ × LineReason) → Result Job (ℕ × LineReason)
end_or n (Some job) behind rest = end_at (n + 1) job behind
end_or n None behind rest = rest

-- why a line is refused that no line feed ends
abbrev pub tail_reason : List ℕ → LineReason
tail_reason tail = if is_long tail then reason.Long else reason.Cut

-- no line feed ends line n
abbrev pub unended : ℕ → List ℕ → ℕ × LineReason
unended n tail = (n, tail_reason tail)

-- the rest of a text from line n on, where the lines before have come so far: its job, or the number of the first line
-- that is refused, and why
abbrev pub job_from : ℕ → Reading → List (List ℕ) → Result Job (ℕ × LineReason)
job_from n r [] = Err (n, reason.Cut)
job_from n r (tail ∷ []) = Err (unended n tail)
job_from n r (line ∷ next ∷ others) =
    if is_long line then Err (n, reason.Long)
    else reading_behind n (reading_after r line)
    (λ read. end_or n (job_in read) (next ∷ others) (job_from (n + 1) read (next ∷ others)))

unfoldable pub job_of : List ℕ → Result Job (ℕ × LineReason)
job_of text = job_from 1 reading.First (segments text)

-- ---- how it is answered

abbrev pub bad_at : ℕ × LineReason → JobError
bad_at refused = job_error.Bad refused.0 refused.1

abbrev pub line_fault : ℕ → LineError → JobError
line_fault n (line_error.Bad why) = job_error.Bad n why
line_fault n line_error.Memory = job_error.Memory

-- want of memory may come in the place of each answer
abbrev pub ReadsJob : Result Job (ℕ × LineReason) → Result Job JobError → Type 0
ReadsJob wanted (Ok job) = wanted ≡ Ok job
ReadsJob wanted (Err (job_error.Bad n why)) = wanted ≡ Err (n, why)
ReadsJob wanted (Err job_error.Memory) = ⊤

-- a whole text leaves its job
abbrev pub ReadsAll : {T : Type 0} → Result Job (ℕ × LineReason) → Reading → Result T JobError → Type 0
ReadsAll wanted r (Ok x) = (job : Job) × (job_in r ≡ Some job) × (wanted ≡ Ok job)
ReadsAll wanted r (Err (job_error.Bad n why)) = wanted ≡ Err (n, why)
ReadsAll wanted r (Err job_error.Memory) = ⊤

-- whether nothing stands behind the last line
abbrev pub ReadsEnd : {T : Type 0} → ℕ → List (List ℕ) → Result T JobError → Type 0
ReadsEnd n behind (Ok x) = behind ≡ [] ∷ []
ReadsEnd n behind (Err (job_error.Bad m why)) = (job : Job) → end_at n job behind ≡ Err (m, why)
ReadsEnd n behind (Err job_error.Memory) = ⊥
