-- What can be sent: the machines, and what comes to them, with which all that is made fits into messages.
use Rattle.std.specs.Prelude.{◌<◌, ◌≤◌, ◌^◌, List, IfSome}
use Rattle.std.specs.List.{AllByRecursion}
use Rattle.dm_base.specs.Limits.{least_room, message_limit}
use Rattle.dm_pack.specs.Entries.{IsReady, whole_entry}
use Rattle.dm_ends.specs.Ready.{IsReadyAccount, IsReadyLimits, IsReadyRead}
use Rattle.dm_job.specs.declared.job.JobEntry.{JobEntry}
use Rattle.dm_job.specs.Sound.{all_entries}
use Rattle.dm_service.specs.declared.progress.ServiceProgress.{ServiceProgress}
use Rattle.dm_service.specs.Service.{Waiting, Session, Service}
use Rattle.dm_service.specs.Events.{Arrival}

abbrev pub IsReadyEntry : JobEntry → Type 0
IsReadyEntry e = IsReady (whole_entry e.command)

abbrev pub AreReadyPackages : List (List JobEntry) → Type 0
AreReadyPackages packages = AllByRecursion IsReadyEntry (all_entries packages)

abbrev pub AreReadyWaiting : List Waiting → Type 0
AreReadyWaiting = AllByRecursion (λ (w : Waiting). IsReady w.entry)

-- the numbers are those of their types, and each message that was sent answers another one
pub record IsReadyProgress (p : ServiceProgress) : Type 0 where
  pub number : p.number < 2 ^ 32
  pub last : p.standing.last < 2 ^ 32
  pub own : p.standing.own ≤ p.standing.last
  pub room : (least_room ≤ p.standing.room) × (p.standing.room ≤ message_limit)

pub record IsReadyService (v : Service) : Type 0 where
  pub limits : IsReadyLimits v.job.limits
  pub account : IsReadyAccount v.job.account
  pub job : AreReadyPackages v.job.packages
  pub packages : AreReadyPackages v.packages
  pub newest : AllByRecursion IsReadyEntry v.newest
  pub queue : AreReadyWaiting v.queue
  pub session : IfSome v.session (λ (s : Session). IsReadyProgress s.progress)

abbrev pub IsReadyArrival : Arrival → Type 0
IsReadyArrival e = IsReadyRead e.read e.nonce
