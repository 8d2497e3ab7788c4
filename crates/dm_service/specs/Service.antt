-- The state of the server's machine.
use Rattle.std.specs.Prelude.{ℕ, List, Option, map}
use Rattle.syncml_types.specs.declared.command.Step.{Step}
use Rattle.syncml_types.specs.Message.{Parts}
use Rattle.dm_objects.specs.declared.object.Object.{Object}
use Rattle.dm_pack.specs.Entries.{Entry}
use Rattle.dm_job.specs.declared.job.Job.{Job}
use Rattle.dm_job.specs.declared.job.JobEntry.{JobEntry}
use Rattle.dm_service.specs.declared.progress.ServiceProgress.{ServiceProgress}
use Rattle.dm_service.specs.declared.sent.Carried.{Carried}
use Rattle.dm_service.specs.declared.sent.KeptAlert.{KeptAlert}
use Rattle.dm_service.specs.declared.sent.Sent.{Sent}

-- what waits: an entry of the job, with the commands that it carries, or an answer
pub record Waiting : Type 0 where
  pub entry : Entry
  pub carries : Option Carried

abbrev pub entries_of : List Waiting → List Entry
entries_of ws = map (λ (w : Waiting). w.entry) ws

-- what the client told of a command of the job: its code, and each value that it found, as the Replace that it is
-- gathered as
pub record Told : Type 0 where
  pub code : Option ℕ
  pub found : List Step

pub record Session : Type 0 where
  pub progress : ServiceProgress
  -- the value that is being gathered from Results
  pub object : Object
  -- the commands of the job that were sent in it, in order
  pub sent : List Sent

pub record Service : Type 0 where
  -- its account has the nonces to use next
  pub job : Job
  pub queue : List Waiting
  -- the packages of the job that are still to be queued in this session
  pub packages : List (List JobEntry)
  -- the package that was queued last in the present session
  pub newest : List JobEntry
  -- the session in which commands of the job were sent that count as sent
  pub runs_in : Option ℕ
  -- one for each command of the job, in order
  pub told : List Told
  pub alerts : List KeptAlert
  pub session : Option Session
  -- the message that was sent last, in any session
  pub sent : Option Parts
