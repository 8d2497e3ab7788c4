-- Where schedules begin, and what may happen on them.
use Rattle.std.specs.Prelude.{◌≡◌, ◌<◌, ◌^◌, ⊤, ℕ, List, [], length, get_or, None, Ok}
use Rattle.std.specs.List.{AllByRecursion}
use Rattle.dm_tree.specs.Nodes.{IsStamp}
use Rattle.syncml_codec.specs.Ranges.{CommandRange}
use Rattle.dm_job.specs.declared.job.Job.{Job}
use Rattle.dm_job.specs.declared.job.JobEntry.{JobEntry}
use Rattle.dm_job.specs.Sound.{all_entries, IsSoundJob}
use Rattle.dm_job.specs.Texts.{job_of}
use Rattle.dm_machine.specs.Machine.{Machine}
use Rattle.dm_machine.specs.Laws.{IsUnused}
use Rattle.dm_machine.specs.Ready.{IsReadyMachine}
use Rattle.dm_service.specs.Messages.{first_service}
use Rattle.dm_world.specs.World.{World, Happening, opens, up_comes, down_comes, update_ends, clock_moves, is_lost}
use Rattle.dm_world.specs.World.{finds_no_memory}

-- this client, and a server with this job that no message came to
abbrev pub at_start : Machine → Job → World
at_start c job = record { client = c; server = first_service job; downs = []; ups = []; executed = []; made = [] }

-- each number of its commands is in the range of its type
abbrev pub AreInRange : Job → Type 0
AreInRange job = AllByRecursion (λ (e : JobEntry). CommandRange e.command) (all_entries job.packages)

-- so they are in each job that is read
abbrev pub JobsAreInRange : Type 0
JobsAreInRange = (text : List ℕ) (job : Job) → job_of text ≡ Ok job → AreInRange job

-- nothing waits and no group is open at the client, all that it makes can be sent, and the job was read, with numbers
-- in the ranges of their types
pub record IsWorldStart (c : Machine) (job : Job) : Type 0 where
  pub unused : IsUnused c
  pub empty : c.queue ≡ []
  pub no_group : c.engine.group ≡ None
  pub ready : IsReadyMachine c
  pub sound : IsSoundJob job
  pub numbers : AreInRange job

-- the nonce of a challenge has sixteen bytes
pub record IsNonce (nonce : List ℕ) : Type 0 where
  pub long : length nonce ≡ 16
  pub bytes : (k : ℕ) → k < 16 → get_or nonce k 0 < 256

-- an account that the client has, and numbers, nonces and stamps in their ranges
abbrev pub IsInRange : Machine → Happening → Type 0
IsInRange c (opens account kind number) = (account < length c.accounts) × (number < 2 ^ 32)
IsInRange c (up_comes k nonce) = IsNonce nonce
IsInRange c (down_comes k nonce) = IsNonce nonce
IsInRange c (update_ends ok) = ⊤
IsInRange c (clock_moves stamp) = IsStamp stamp
IsInRange c is_lost = ⊤
IsInRange c finds_no_memory = ⊤

abbrev pub IsSchedule : Machine → List Happening → Type 0
IsSchedule c = AllByRecursion (IsInRange c)
