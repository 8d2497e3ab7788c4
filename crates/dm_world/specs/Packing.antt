-- What packing, sending and executing make of acts: none is lost, and none comes twice.
use Rattle.std.specs.Prelude.{◌≡◌, ◌<◌, ◌&&◌, ℕ, Bool, true, false, not, List, [], ◌++◌, Option, None, Some}
use Rattle.std.specs.List.{AllByRecursion}
use Rattle.syncml_types.specs.declared.values.Header.{Header}
use Rattle.syncml_types.specs.declared.command.Step.{Step}
use Rattle.syncml_types.specs.declared.command.Command.{Command}
use Rattle.syncml_types.specs.Message.{Parts}
use Rattle.dm_headers.specs.declared.checks.Side.TheVariants.{User}
use Rattle.dm_headers.specs.Checks.{is_denied}
use Rattle.dm_headers.specs.Standings.{hears}
use Rattle.dm_pack.specs.Entries.{Entry}
use Rattle.dm_pack.specs.Filling.{Filling, fill, commands_of}
use Rattle.dm_machine.specs.declared.progress.Progress.{Progress}
use Rattle.dm_machine.specs.Machine.{Machine}
use Rattle.dm_machine.specs.Statuses.{is_executed}
use Rattle.dm_service.specs.Service.{Waiting, Session, Service, entries_of}
use Rattle.dm_service.specs.Messages.{first_service, accepts}
use Rattle.dm_service.specs.Events.{Arrival, reply_of}
use Rattle.dm_service.specs.History.{state_from}
use Rattle.dm_ends.specs.Commands.{is_report}
use Rattle.dm_job.specs.declared.job.Job.{Job}
use Rattle.dm_service.specs.declared.sent.Carried.{Carried}
use Rattle.dm_world.specs.World.{heard_by, deeds_in}
use Rattle.dm_world.specs.Acts.{Act, acts, deeds_acts, entries_acts, job_acts, join}

-- the acts of a message, and those of what it leaves
abbrev pub sent_and_left : Filling → List Act
sent_and_left f = acts f.message.body ++ acts (commands_of f.left)

-- A message and what it leaves are, parts joined, what waited: behind whatever part came before, and before whatever
-- comes then.
abbrev pub PacksAll : Type 0
PacksAll = (part : Option Step) (es : List Entry) (h : Header) (room : ℕ) (heard : Bool) (later : List Act)
    → join part (sent_and_left (fill es h room heard) ++ later) ≡ join part (acts (commands_of es) ++ later)

-- what counts as executed of a message that is executed are its acts, in order
abbrev pub ExecutesAll : Type 0
ExecutesAll = (c : Machine) (p : Progress) (m : Parts) (nonce : List ℕ) → is_executed p m (heard_by c p m nonce) ≡ true
    → deeds_acts (deeds_in c p m nonce) ≡ acts m.body

-- ---- at the server

-- the acts that it has still to send: of what waits, and of the packages that weren't queued
abbrev pub acts_to_send : Service → List Act
acts_to_send v = acts (commands_of (entries_of v.queue)) ++ job_acts v.packages

abbrev pub reply_acts : Option Parts → List Act
reply_acts None = []
reply_acts (Some m) = acts m.body

-- the client tells for the first time in the session that it refused the server's last message
abbrev pub tells_refusal : Service → Session → Parts → List ℕ → Bool
tells_refusal v s m nonce =
    not s.progress.standing.we_failed && is_denied (hears User v.job.account s.progress.standing m nonce).status

-- The reply to a message, and what is still to be sent then, are, parts joined, what was to be sent, unless the message
-- tells that the last one was refused.
abbrev pub SendsOrKeeps : Type 0
SendsOrKeeps = (v : Service) (s : Session) (m : Parts) (nonce : List ℕ) (part : Option Step)
    → tells_refusal v s m nonce ≡ false
    → join part (reply_acts (reply_of (accepts v s m nonce)) ++ acts_to_send (accepts v s m nonce))
    ≡ join part (acts_to_send v)

-- ---- what waits there, and what is given up

-- it says that it carries some command of the job, or it is a report
abbrev pub IsCarried : Option Carried → Command → Type 0
IsCarried None c = is_report c ≡ true
IsCarried (Some carried) c = 0 < carried.count

abbrev pub IsOfJobOrReport : Waiting → Type 0
IsOfJobOrReport w = IsCarried w.carries w.entry.command

-- so is all that ever waits
abbrev pub QueuesReports : Type 0
QueuesReports = (job : Job) (es : List Arrival)
    → AllByRecursion IsOfJobOrReport (state_from (first_service job) es).queue

-- where a message tells that the last one was refused, the whole package that was queued last is to be sent again
abbrev pub PutsBack : Type 0
PutsBack = (v : Service) (s : Session) (m : Parts) (nonce : List ℕ) (part : Option Step)
    → AllByRecursion IsOfJobOrReport v.queue
    → tells_refusal v s m nonce ≡ true
    → join part (reply_acts (reply_of (accepts v s m nonce)) ++ acts_to_send (accepts v s m nonce))
    ≡ join part (entries_acts v.newest ++ job_acts v.packages)
