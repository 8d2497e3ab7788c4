-- The report by places: for which command of the job each thing was that the client executed, by when it did so; and
-- the code and the values at a place are those of what was executed for this place.
use Rattle.std.specs.Prelude.{◌≡◌, ◌<◌, ◌+◌, ◌++◌, ℕ, false, if◌then◌else◌, List, [], ◌∷◌, length, take}
use Rattle.std.specs.Prelude.{slice_get, Some, None, is_some}
use Rattle.std.specs.List.{Contains}
use Rattle.syncml_types.specs.declared.command.Step.{Step}
use Rattle.syncml_types.specs.declared.command.Verb.TheVariants.{Replace}
use Rattle.syncml_parts.specs.Packing.{bytes_in}
use Rattle.dm_commands.specs.declared.outcome.Found.{Found}
use Rattle.dm_atomic.specs.declared.tasks.Post.{Post}
use Rattle.dm_atomic.specs.Made.{Result}
use Rattle.dm_job.specs.declared.job.Job.{Job}
use Rattle.dm_machine.specs.Machine.{Machine}
use Rattle.dm_service.specs.Laws.{code_at, found_at}
use Rattle.dm_world.specs.Acts.{Act, block, does, Joined, join, deeds_acts, doing_acts, job_acts}
use Rattle.dm_world.specs.Deeds.{Deed}
use Rattle.dm_world.specs.World.{InSession, World, Happening, run}
use Rattle.dm_world.specs.Start.{at_start, IsWorldStart, IsSchedule}
use Rattle.dm_world.specs.Commands.{WasMade, IsWholeDeed}

-- ---- places

-- where the last container of these acts stands, of which the first is at `at`
abbrev pub last_block : ℕ → ℕ → List Act → ℕ
last_block found at [] = found
last_block found at (block name ∷ acts) = last_block at (at + 1) acts
last_block found at (does s more ∷ acts) = last_block found (at + 1) acts

-- The place in the job, from 0, of an act behind others that are joined so: behind all of these that are whole. A
-- container that comes while a step has come in part is the one in which that step stands.
abbrev pub place_behind : Joined → Act → ℕ
place_behind j (block name) = if is_some j.part then last_block 0 0 j.whole else length j.whole
place_behind j (does s more) = length j.whole

-- what was executed as the k-th, from 0, is the command of the job at this place, whole or a part of it
pub record IsExecutedAt (executed : List (InSession Deed)) (k place : ℕ) (x : InSession Deed) : Type 0 where
  pub is : slice_get executed k ≡ Some x
  pub act : Act
  pub act_is : doing_acts x.what.doing ≡ act ∷ []
  pub place_is : place_behind (join None (deeds_acts (take k executed))) act ≡ place

-- and nothing that was executed later is at this place
pub record IsLastAt (executed : List (InSession Deed)) (k place : ℕ) (x : InSession Deed) : Type 0 where
  pub at : IsExecutedAt executed k place x
  pub last : (j : ℕ) (y : InSession Deed) → k < j → IsExecutedAt executed j place y → ⊥

-- ---- codes

-- the last of what the client executed for this place of the job, of a step the whole or its last part, and a Status
-- with this code that it made for that
pub record IsGivenAt (w : World) (place code : ℕ) : Type 0 where
  pub k : ℕ
  pub deed : InSession Deed
  pub executed : IsLastAt w.executed k place deed
  pub whole : IsWholeDeed deed.what
  pub made : WasMade w.made deed.session deed.what.post.msg deed.what.post.command code

abbrev pub CodesAreGivenByPlace : Type 0
CodesAreGivenByPlace = (c : Machine) (job : Job) (hs : List Happening) (place code : ℕ) → IsWorldStart c job
    → IsSchedule c hs
    → code_at (run (at_start c job) hs).server.told place ≡ Some code
    → IsGivenAt (run (at_start c job) hs) place code

-- ---- values

-- a value that was found, as the server keeps it
abbrev pub as_kept : Found → Step
as_kept found = record {
  verb = Replace;
  target = Some found.uri;
  format = Some found.format;
  media = found.media;
  value = bytes_in found.value;
  correlator = None;
  in_atomic = false;
}

-- a value that the client found for what it executed for this place
pub record IsFoundAt (w : World) (place : ℕ) (value : Step) : Type 0 where
  pub k : ℕ
  pub deed : InSession Deed
  pub executed : IsExecutedAt w.executed k place deed
  pub post : Post
  pub found : Found
  pub within : Contains w.made (record { session = deed.session; what = Result post found })
  pub msg_is : post.msg ≡ deed.what.post.msg
  pub command_is : post.command ≡ deed.what.post.command
  pub value_is : value ≡ as_kept found

abbrev pub ValuesAreFoundByPlace : Type 0
ValuesAreFoundByPlace = (c : Machine) (job : Job) (hs : List Happening) (place : ℕ) (value : Step) → IsWorldStart c job
    → IsSchedule c hs
    → Contains (found_at (run (at_start c job) hs).server.told place) value
    → IsFoundAt (run (at_start c job) hs) place value

-- ---- what a place is

-- a step of the job, and what was executed for it: a part of its value, or the whole
abbrev pub IsPartOfAct : Act → Act → Type 0
IsPartOfAct (block name) (block other) = name ≡ other
IsPartOfAct (block name) (does s more) = ⊥
IsPartOfAct (does s more) (block name) = ⊥
IsPartOfAct (does s more) (does t rest) =
    (before later : List ℕ) × (before ++ t.value ++ later ≡ s.value) × (record t { value = s.value } ≡ s)

-- what was executed for a place is the job's act there, or a part of it
pub record IsJobActAt (job : Job) (place : ℕ) (x : InSession Deed) : Type 0 where
  pub act : Act
  pub act_is : doing_acts x.what.doing ≡ act ∷ []
  pub whole : Act
  pub at : slice_get (job_acts job.packages) place ≡ Some whole
  pub part : IsPartOfAct whole act

abbrev pub PlacesAreTheJobs : Type 0
PlacesAreTheJobs = (c : Machine) (job : Job) (hs : List Happening) (k place : ℕ) (x : InSession Deed)
    → IsWorldStart c job
    → IsSchedule c hs
    → IsExecutedAt (run (at_start c job) hs).executed k place x
    → IsJobActAt job place x
