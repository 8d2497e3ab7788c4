-- What both ends make of a job, on every schedule.
use Rattle.std.specs.Prelude.{◌≡◌, ℕ, List, [], ◌∷◌, ◌++◌, None, IfSome}
use Rattle.syncml_types.specs.declared.command.Step.{Step}
use Rattle.dm_job.specs.declared.job.Job.{Job}
use Rattle.dm_job.specs.declared.job.JobEntry.{JobEntry}
use Rattle.dm_machine.specs.Machine.{Machine}
use Rattle.dm_world.specs.Deeds.{Deed}
use Rattle.dm_world.specs.World.{InSession, Happening, run}
use Rattle.dm_world.specs.Acts.{Act, block, does, job_acts, deeds_acts, join}
use Rattle.dm_world.specs.Start.{at_start, IsWorldStart, IsSchedule}

-- a step is what came of it, with more bytes of its value
abbrev pub GoesOnAs : Step → Step → Type 0
GoesOnAs part s = (later : List ℕ) × (s ≡ record part { value = part.value ++ later })

-- the step that has come in part is the first of these acts
abbrev pub IsNext : List Act → Step → Type 0
IsNext [] part = ⊥
IsNext (block name ∷ acts) part = ⊥
IsNext (does s more ∷ acts) part = GoesOnAs part s

-- What was executed, parts joined, is a prefix of what the job asks for, in order and each once; of at most one command
-- more a part has come, and that is the next one of the job.
pub record ExecutesInOrder (packages : List (List JobEntry)) (executed : List (InSession Deed)) : Type 0 where
  pub rest : List Act
  pub in_order : (join None (deeds_acts executed)).whole ++ rest ≡ job_acts packages
  pub next : IfSome (join None (deeds_acts executed)).part (IsNext rest)

abbrev pub RunsInOrder : Type 0
RunsInOrder = (c : Machine) (job : Job) (hs : List Happening) → IsWorldStart c job → IsSchedule c hs
    → ExecutesInOrder job.packages (run (at_start c job) hs).executed
