-- What lines tell is such as schedules begin with.
use Rattle.std.specs.Prelude.{◌≡◌, ℕ, if◌then◌else◌, List, [], ◌∷◌, ◌++◌, Ok}
use Rattle.dm_job.specs.declared.job.Job.{Job}
use Rattle.dm_job.specs.Texts.{segments, is_long, job_of}
use Rattle.dm_machine.specs.Machine.{Machine}
use Rattle.dm_start.specs.declared.telling.Phase.TheVariants as phase
use Rattle.dm_start.specs.Start.{Setup, telling, section_of_lines}
use Rattle.dm_replay.specs.Output.{client_of}
use Rattle.dm_replay.specs.Trace.{servers_of}
use Rattle.dm_world.specs.Start.{IsWorldStart}
use Rattle.dm_pair.specs.Pairing.{Pairing}
use Rattle.dm_pair.specs.Schedules.{brought, first_pairing, HasEnds, OnSchedule}
use Rattle.dm_pair.specs.Texts.{TextStage, first, happening}

-- whatever a whole start section and the text of a job tell
abbrev pub StartsAndJobsBegin : Type 0
StartsAndJobsBegin =
    (lines : List (List ℕ)) (told : Setup) (text : List ℕ) (job : Job)
    → section_of_lines lines ≡ Ok (telling phase.Begun told)
    → job_of text ≡ Ok job
    → IsWorldStart (client_of told) job

-- the lines of a text up to the first that is longer than a line may be; what no line feed ends is none
abbrev pub lines_before_long : List (List ℕ) → List (List ℕ)
lines_before_long [] = []
lines_before_long (tail ∷ []) = []
lines_before_long (line ∷ next ∷ others) = if is_long line then [] else line ∷ lines_before_long (next ∷ others)

-- lines of which the first bring a stage to a client and a job such as schedules begin with, and all of them to what a
-- schedule from there makes of the world
pub record OnWorldSchedule (s : TextStage) (lines : List (List ℕ)) (p : Pairing) : Type 0 where
  pub client : Machine
  pub job : Job
  pub before : List (List ℕ)
  pub behind : List (List ℕ)
  pub are : lines ≡ before ++ behind
  pub begins : brought s before ≡ happening (servers_of client.accounts) (first_pairing client job)
  pub start : IsWorldStart client job
  pub on : OnSchedule client job p

-- so whatever the text, where its lines come behind its job
abbrev pub TextsBegin : Type 0
TextsBegin = (text : List ℕ) (p : Pairing) → HasEnds p (brought first (lines_before_long (segments text)))
    → OnWorldSchedule first (lines_before_long (segments text)) p
