-- What a message that is taken makes of a server.
use Rattle.std.specs.Prelude.{◌≡◌, ◌<◌, ◌≤◌, ◌+◌, ◌^◌, ◌++◌, ◌||◌, ℕ, Bool, true, false, not, if◌then◌else◌, List, []}
use Rattle.std.specs.Prelude.{map, length, take, Option, option_map, is_some, IfSome, IsSomeAnd, unwrap_or}
use Rattle.std.specs.List.{filter}
use Rattle.std.specs.Option.{option_or}
use Rattle.dm_base.specs.Limits.{least_room, message_limit}
use Rattle.syncml_types.specs.declared.command.Command.{Command}
use Rattle.syncml_types.specs.Message.{Parts}
use Rattle.syncml_types.specs.Fitness.{IsFit}
use Rattle.syncml_codec.specs.Ranges.{AreNumbers}
use Rattle.dm_auth.specs.declared.accounts.Account.{Account}
use Rattle.dm_headers.specs.Checks.{fault_of, is_denied, passes}
use Rattle.dm_headers.specs.Standings.{Heard}
use Rattle.dm_ends.specs.declared.farewells.LastMessage.{LastMessage}
use Rattle.dm_ends.specs.Ready.{IsReadyAccount, IsReadyLimits, IsReadyMessage}
use Rattle.dm_job.specs.declared.job.Job.{Job}
use Rattle.dm_job.specs.declared.job.JobEntry.{JobEntry}
use Rattle.dm_job.specs.Sound.{AreNumbered}
use Rattle.dm_report.specs.Known.{Known, GatheredSoFar, TellsOfJob, is_within}
use Rattle.dm_report.specs.Sending.{AreCommands}
use Rattle.dm_service.specs.declared.progress.ServiceProgress.{ServiceProgress}
use Rattle.dm_service.specs.declared.sent.Sent.{Sent}
use Rattle.dm_service.specs.Laws.{AreInOrder}
use Rattle.dm_service.specs.Packages.{holds_number, next_package}
use Rattle.dm_service.specs.Answers.{command_answers}
use Rattle.dm_service.specs.Sending.{sends}
use Rattle.dm_service.specs.Ready.{AreReadyPackages, AreReadyWaiting}
use Rattle.dm_service.specs.Service.{Waiting, Session, Service}
use Rattle.dm_service.specs.Messages.{answer_waiting, tells, in_session, by_header, accepts}
use Rattle.dm_service.specs.Events.{last_of, takes, after, opens_session, refusal, reply_of, arrival}
use Rattle.dm_server.specs.declared.answers.ServerAnswer.{ServerAnswer}
use Rattle.dm_server.specs.declared.answers.ServerAnswer.TheVariants as answer
use Rattle.dm_server.specs.declared.coming.Coming.{Coming}
use Rattle.dm_server.specs.declared.coming.Coming.TheVariants as coming
use Rattle.dm_server.specs.declared.drafts.Advance.{Advance}
use Rattle.dm_server.specs.declared.drafts.ServerChanges.{ServerChanges}
use Rattle.dm_server.specs.declared.held.Run.{Run}
use Rattle.dm_server.specs.declared.held.Outbox.{Outbox}
use Rattle.dm_server.specs.declared.held.PresentSession.{PresentSession as Held}
use Rattle.dm_server.specs.declared.held.ServerWork.{ServerWork}
use Rattle.dm_server.specs.Inside.{at_work, message_in, session_with, IsNumberedJob, IsWithinJob, IsSpelled, KeepsReply}
use Rattle.dm_server.specs.View.{Tells}

abbrev pub with_account : Job → Account → Job
with_account job account = record job { account = account }

-- ---- what a message is worked with

-- the machine, with what waits and what is known, where this message was sent last
abbrev pub machine_in : ServerWork → Outbox → GatheredSoFar → Known → Option Parts → Service
machine_in w o g known before =
    at_work (with_account w.plan.now.job w.account.now) w.run w.progress o g known before

abbrev pub session_at_work : ServerWork → Outbox → GatheredSoFar → Session
session_at_work w o g = session_with w.progress o g

-- ---- what a message meets

-- what waits can be sent, and what was sent are commands of the job in their order
pub record IsSendable (job : Job) (run : Run) (o : Outbox) : Type 0 where
  pub place : IsWithinJob job run
  pub queue : AreReadyWaiting o.queue
  pub commands : AreCommands o.sent
  pub order : AreInOrder o.sent

pub record CanWork (w : ServerWork) (o : Outbox) (g : GatheredSoFar) : Type 0 where
  pub holds : IsSendable w.plan.now.job w.run o
  pub max_obj : g.max_obj ≡ w.plan.now.job.limits.max_obj
  pub numbered : IsNumberedJob w.plan.now.job
  pub packages : AreReadyPackages w.plan.now.job.packages
  pub limits : IsReadyLimits w.plan.now.job.limits
  pub named : IsReadyAccount w.account.now
  pub number : w.progress.number < 2 ^ 32
  pub own : w.progress.standing.own + 1 < 2 ^ 32
  pub room : (least_room ≤ w.progress.standing.room) × (w.progress.standing.room ≤ message_limit)

abbrev pub IsReadyWork : ServerWork → Type 0
IsReadyWork w = IsReadyMessage w.message.now w.nonce.now.bytes

-- packages of a numbered job can be queued behind what waits
pub record CanQueue (job : Job) (run : Run) (waits : List Waiting) : Type 0 where
  pub numbered : IsNumberedJob job
  pub packages : AreReadyPackages job.packages
  pub place : IsWithinJob job run
  pub queue : AreReadyWaiting waits

-- a message that can be held
pub record IsReadyBody (m : Parts) : Type 0 where
  pub fit : IsFit m.header m.body
  pub numbers : AreNumbers m

-- the code of its header is below 2 ^ 32, and tells whether it has a fault
pub record IsFaultTold (code : ℕ) (m : Parts) : Type 0 where
  pub low : code < 2 ^ 32
  pub faultless : (passes code || is_denied code) ≡ not (is_some (fault_of m))

-- a session that can take a message of this MsgID
pub record CanAccept (job : Job) (run : Run) (s : Held) (msg : ℕ) : Type 0 where
  pub holds : IsSendable job run s.outbox
  pub max_obj : s.gathering.max_obj ≡ job.limits.max_obj
  pub numbered : IsNumberedJob job
  pub packages : AreReadyPackages job.packages
  pub limits : IsReadyLimits job.limits
  pub named : IsReadyAccount job.account
  pub number : s.progress.number < 2 ^ 32
  pub own : s.progress.standing.own < msg
  pub room : (least_room ≤ s.progress.standing.room) × (s.progress.standing.room ≤ message_limit)

-- ---- what it leaves

-- the machine behind a message, where this one was sent last before
abbrev pub machine_behind : Job → Account → Advance → Outbox → GatheredSoFar → Known → Option Parts → Service
machine_behind job account next o g known before =
    at_work (with_account job account) next.run next.progress o g known
    (option_or (option_map message_in next.sent) before)

abbrev pub service_behind : ServerWork → Advance → Outbox → GatheredSoFar → Known → Option Parts → Service
service_behind w next o g known before = machine_behind w.plan.now.job w.account.now next o g known before

-- nothing of what a message may change has changed
pub record IsAsBefore (o next : Outbox) (g after : GatheredSoFar) (k known : Known) : Type 0 where
  pub outbox : next ≡ o
  pub gathering : after ≡ g
  pub findings : known ≡ k

-- the same, but for what stands behind what was sent
pub record HasSentMore (o next : Outbox) (g after : GatheredSoFar) (k known : Known) : Type 0 where
  pub queue : next.queue ≡ o.queue
  pub sent : take (length o.sent) next.sent ≡ o.sent
  pub gathering : after ≡ g
  pub findings : known ≡ k

-- the same, but for what stands behind what waited, and behind what was sent
pub record HasMoreBehind (o next : Outbox) (g after : GatheredSoFar) (k known : Known) : Type 0 where
  pub queue : take (length o.queue) next.queue ≡ o.queue
  pub sent : take (length o.sent) next.sent ≡ o.sent
  pub gathering : after ≡ g
  pub findings : known ≡ k

-- a message is sent exactly where the progress says so, and its bytes spell it
pub record IsReply (p : ServiceProgress) (sent : Option LastMessage) : Type 0 where
  pub answered : p.answered ≡ is_some sent
  pub spelled : IfSome sent IsSpelled

-- what is left of an answer once the Status of the header stands in front of what waits
abbrev pub answered_from : Service → Session → Parts → ℕ → Service
answered_from v s m code =
    let told = tells v s m code in
    let t = in_session told s in
    let queue = told.queue ++ map answer_waiting (if passes code then command_answers m else []) in
    sends (next_package (record told { queue = queue }) t.progress.standing) t m code

-- the same, with the account where it is new
abbrev pub drafted : Job → ServerChanges → Held → Known → Option Parts → Service
drafted job d s known before =
    at_work (with_account job (unwrap_or d.account job.account)) d.run s.progress s.outbox s.gathering known
    (option_or (option_map message_in d.sent) before)

abbrev pub answer_with : Option LastMessage → ServerAnswer
answer_with sent = if is_some sent then answer.Sent else answer.Ended

-- the commands of a message that passes tell of the job; those of another tell nothing
abbrev pub ToldBy : Bool → List Sent → List Command → Known → Known → GatheredSoFar → GatheredSoFar → Type 0
ToldBy true sent body known next before after = TellsOfJob sent body known next before after
ToldBy false sent body known next before after = (next ≡ known) × (after ≡ before)

-- ---- a package is given up

-- what a message makes of a machine whose session may have changed
abbrev pub by_header_after : Service → Session → Parts → Heard → List ℕ → Service
by_header_after v s m h nonce = by_header v (in_session v s) m h nonce

-- its commands are numbered in a row
pub record AreInARow (given : List JobEntry) : Type 0 where
  pub first : ℕ
  pub numbered : AreNumbered first given

-- so many from the first one on
abbrev pub IsRange : List JobEntry → ℕ → ℕ → Type 0
IsRange given first count = (n : ℕ) → holds_number given n ≡ is_within first count n

abbrev pub sent_without : ℕ → ℕ → List Sent → List Sent
sent_without first count = filter (λ (s : Sent). not (is_within first count s.number))

-- ---- what a message is to a machine

-- the first message of a session, a later one, or one that isn't taken
abbrev pub ComesAs : Coming → Service → Parts → List ℕ → Type 0
ComesAs (coming.Begins n) v m nonce =
    (takes v (arrival m nonce) ≡ true) × (after v (arrival m nonce) ≡ opens_session v n m nonce)
ComesAs coming.Follows v m nonce =
    (takes v (arrival m nonce) ≡ true)
    × IsSomeAnd v.session (λ (s : Session). (last_of s < m.header.msg)
    × (after v (arrival m nonce) ≡ accepts v s m nonce))
ComesAs (coming.Old a) v m nonce =
    (takes v (arrival m nonce) ≡ false)
    × (KeepsReply v → Tells a v (refusal v (arrival m nonce) (reply_of v)))
