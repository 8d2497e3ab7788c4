-- What a server's fields stand for.
use Rattle.std.specs.Prelude.{◌≡◌, ◌<◌, ◌≤◌, ◌-◌, true, if◌then◌else◌, List, [], drop, length, get_or}
use Rattle.std.specs.Prelude.{Option, None, Some, option_map, is_some, IfSome}
use Rattle.std.specs.List.{AllByRecursion}
use Rattle.syncml_types.specs.Message.{Parts}
use Rattle.syncml_types.specs.Canonical.{canonical}
use Rattle.dm_ends.specs.declared.farewells.LastMessage.{LastMessage}
use Rattle.dm_job.specs.declared.job.Job.{Job}
use Rattle.dm_job.specs.declared.job.JobEntry.{JobEntry}
use Rattle.dm_job.specs.Sound.{all_entries, AreNumbered}
use Rattle.dm_report.specs.Known.{Known, GatheredSoFar}
use Rattle.dm_report.specs.Sending.{AreCommands}
use Rattle.dm_service.specs.declared.progress.ServiceProgress.{ServiceProgress}
use Rattle.dm_service.specs.Service.{Waiting, Session, Service}
use Rattle.dm_service.specs.Messages.{first_service}
use Rattle.dm_service.specs.Events.{Arrival, is_answered}
use Rattle.dm_service.specs.History.{state_from}
use Rattle.dm_service.specs.Ready.{IsReadyService}
use Rattle.dm_server.specs.declared.held.Run.{Run}
use Rattle.dm_server.specs.declared.held.Outbox.{Outbox}
use Rattle.dm_server.specs.declared.held.PresentSession.{PresentSession as Held}
use Rattle.dm_server.specs.declared.server.Server.TheInside.{Inside}

-- ---- the machine

abbrev pub message_in : LastMessage → Parts
message_in m = m.message

-- the package that was queued last in the present session
abbrev pub newest_of : List (List JobEntry) → Run → List JobEntry
newest_of packages run = if run.queued then get_or packages (run.next - 1) [] else []

-- that of a job that is so far, with what waits, what is known, and a session
abbrev pub service_of : Job → Run → List Waiting → Known → Option Session → Option Parts → Service
service_of job run queue known session sent = record {
  job = job;
  queue = queue;
  packages = drop run.next job.packages;
  newest = newest_of job.packages run;
  runs_in = run.runs_in;
  told = known.told;
  alerts = known.alerts;
  session = session;
  sent = sent;
}

abbrev pub session_with : ServiceProgress → Outbox → GatheredSoFar → Session
session_with p o g = record { progress = p; object = g.object; sent = o.sent }

-- the machine in a session
abbrev pub at_work : Job → Run → ServiceProgress → Outbox → GatheredSoFar → Known → Option Parts → Service
at_work job run p o g known sent = service_of job run o.queue known (Some (session_with p o g)) sent

abbrev pub session_in : Held → Session
session_in s = session_with s.progress s.outbox s.gathering

abbrev pub queue_in : Option Held → List Waiting
queue_in None = []
queue_in (Some s) = s.outbox.queue

abbrev pub server_of : Inside → Service
server_of c =
    service_of c.plan.job c.run (queue_in c.session) c.findings (option_map session_in c.session)
    (option_map message_in c.sent)

-- ---- what holds of it

-- the bytes that are kept beside a message spell it
abbrev pub IsSpelled : LastMessage → Type 0
IsSpelled m = m.bytes ≡ canonical m.message

-- no package is empty, and the commands are numbered from 1
pub record IsNumberedJob (job : Job) : Type 0 where
  pub filled : AllByRecursion (λ (es : List JobEntry). 0 < length es) job.packages
  pub numbered : AreNumbered 1 (all_entries job.packages)

-- a place among the packages; one was queued only where one stands before it
pub record IsWithinJob (job : Job) (run : Run) : Type 0 where
  pub within : run.next ≤ length job.packages
  pub behind : run.queued ≡ true → 0 < run.next

-- what was sent are commands of the job, and no greater value is gathered than the limits say
pub record Stands (job : Job) (run : Run) (o : Outbox) (g : GatheredSoFar) : Type 0 where
  pub place : IsWithinJob job run
  pub commands : AreCommands o.sent
  pub max_obj : g.max_obj ≡ job.limits.max_obj

-- a state to which messages have led the server of a job
pub record MessagesLeadTo (v : Service) : Type 0 where
  pub job : Job
  pub arrivals : List Arrival
  pub reached : state_from (first_service job) arrivals ≡ v

-- where the last message was answered, the answer is kept
abbrev pub KeepsReply : Service → Type 0
KeepsReply v = is_answered v.session ≡ true → is_some v.sent ≡ true

pub record IsConsistent (c : Inside) : Type 0 where
  pub job : IsNumberedJob c.plan.job
  pub place : IsWithinJob c.plan.job c.run
  pub session : IfSome c.session (λ (s : Held). Stands c.plan.job c.run s.outbox s.gathering)
  pub sent : IfSome c.sent IsSpelled
  pub ready : IsReadyService (server_of c)
  pub reached : MessagesLeadTo (server_of c)
  pub reply : KeepsReply (server_of c)
