-- What holds of the machine's runs and of its messages, over the definitions alone.
use Rattle.std.specs.Prelude.{◌≡◌, ◌<◌, ◌≤◌, ◌+◌, ◌-◌, ◌⊎◌, ◌==◌, ℕ, true, false, length, get_or, if◌then◌else◌, List}
use Rattle.std.specs.Prelude.{[], ◌∷◌, ◌++◌, map, Option}
use Rattle.std.specs.Prelude.{Some, None, Result, Ok, Err, IfSome, ⊤}
use Rattle.std.specs.List.{AllByRecursion, Contains, flat_map}
use Rattle.dm_base.specs.Limits.{least_room}
use Rattle.syncml_types.specs.Message.{Parts}
use Rattle.syncml_types.specs.Canonical.{canonical}
use Rattle.wbxml_tokens.specs.declared.reason.Refusal.{Refusal}
use Rattle.syncml_types.specs.declared.values.Item.{Item}
use Rattle.syncml_types.specs.declared.command.ResultsCmd.{ResultsCmd}
use Rattle.syncml_types.specs.declared.command.StatusCmd.{StatusCmd}
use Rattle.syncml_types.specs.declared.command.Step.{Step}
use Rattle.dm_objects.specs.declared.object.Object.{Object}
use Rattle.dm_objects.specs.declared.object.Object.TheVariants.{Nothing}
use Rattle.dm_objects.specs.declared.piece.Piece.{Piece}
use Rattle.dm_objects.specs.declared.piece.What.TheVariants.{Whole}
use Rattle.dm_objects.specs.Gathering.{gather}
use Rattle.dm_objects.specs.Laws.{gather_all, IsPutTogether}
use Rattle.syncml_types.specs.declared.command.Command.{Command}
use Rattle.syncml_types.specs.declared.command.Command.TheVariants as command
use Rattle.dm_headers.specs.Checks.{fault_of, passes}
use Rattle.dm_job.specs.declared.job.Job.{Job}
use Rattle.dm_job.specs.Sound.{all_entries, AreNumbered, IsSoundJob}
use Rattle.dm_service.specs.declared.sent.KeptAlert.{KeptAlert}
use Rattle.dm_service.specs.declared.sent.Sent.{Sent}
use Rattle.dm_service.specs.Service.{Told, Session, Service}
use Rattle.dm_service.specs.Matching.{untold, results_for, result_piece, kept_alert}
use Rattle.dm_service.specs.Messages.{first_service, tells, accepts}
use Rattle.dm_service.specs.Events.{Arrival, number_of, reply_of}
use Rattle.dm_service.specs.Pieces.{still_sent, is_read, pieces_in, pieces_from}
use Rattle.dm_service.specs.History.{fresh, reached, answers, answers_from, state_from, next}
use Rattle.dm_service.specs.Ready.{IsReadyService, IsReadyArrival}

-- ---- runs

-- a server that took no message yet
abbrev pub IsUnused : Service → Type 0
IsUnused v = v.session ≡ None

-- the answers by the history are those by the state, and so is the state
abbrev pub StateIsEnough : Type 0
StateIsEnough = (v : Service) (es : List Arrival) → IsUnused v
    → (answers v es ≡ answers_from v es) × (reached v (fresh v es) ≡ state_from v es)

-- where a message stands: its session's number, and its MsgID in it
pub record Position : Type 0 where
  pub session : ℕ
  pub msg : ℕ

abbrev pub number_or_zero : Option ℕ → ℕ
number_or_zero None = 0
number_or_zero (Some n) = n

abbrev pub read_position : Result Parts Refusal → Position
read_position (Ok m) = record { session = number_or_zero (number_of m); msg = m.header.msg }
read_position (Err refusal) = record { session = 0; msg = 0 }

abbrev pub position_of : Arrival → Position
position_of e = read_position e.read

-- later in session numbers, or in the same session at a greater MsgID
abbrev pub IsBefore : Position → Position → Type 0
IsBefore p q = (p.session < q.session) ⊎ ((p.session ≡ q.session) × (p.msg < q.msg))

abbrev pub Rise : Position → List Arrival → Type 0
Rise p [] = ⊤
Rise p (e ∷ es) = IsBefore p (position_of e) × Rise (position_of e) es

-- accepted message numbers rise, so none is accepted twice
abbrev pub AcceptedNumbersRise : Type 0
AcceptedNumbersRise =
    (v : Service) (es : List Arrival) → IsUnused v → Rise (record { session = 0; msg = 0 }) (fresh v es)

-- ---- the job

-- 1 where a command of this number goes out whole, or the last part of it
abbrev pub goes_out_as : ℕ → Sent → ℕ
goes_out_as n s = if s.counts then (if s.number == n then 1 else 0) else 0

abbrev pub times_sent : ℕ → List Sent → ℕ
times_sent n [] = 0
times_sent n (s ∷ ss) = goes_out_as n s + times_sent n ss

abbrev pub sent_in : Option Session → List Sent
sent_in None = []
sent_in (Some s) = s.sent

-- in an earlier message, or in the same one with a lower CmdID
abbrev pub IsSentBefore : Sent → Sent → Type 0
IsSentBefore s t = (s.msg < t.msg) ⊎ ((s.msg ≡ t.msg) × (s.command < t.command))

abbrev pub AreInOrder : List Sent → Type 0
AreInOrder [] = ⊤
AreInOrder (s ∷ ss) = AllByRecursion (IsSentBefore s) ss × AreInOrder ss

-- what was sent in a session is in the order of its two numbers, so no two commands have the same ones
abbrev pub SentInOrder : Type 0
SentInOrder = (job : Job) (es : List Arrival) → AreInOrder (sent_in (state_from (first_service job) es).session)

-- in a session no command of the job goes out twice, whole or by its last part, unless it was given up in between
abbrev pub SendsOnce : Type 0
SendsOnce = (job : Job) (es : List Arrival) (n : ℕ) → AreNumbered 1 (all_entries job.packages)
    → times_sent n (sent_in (state_from (first_service job) es).session) ≤ 1

-- what is sent of the job is sent in the one session in which it runs
abbrev pub IsRunBy : Option ℕ → ℕ → List Sent → Type 0
IsRunBy runs number [] = ⊤
IsRunBy runs number (s ∷ ss) = runs ≡ Some number

abbrev pub IsOfRun : Option ℕ → Option Session → Type 0
IsOfRun runs None = ⊤
IsOfRun runs (Some s) = IsRunBy runs s.progress.number s.sent

abbrev pub RunsInOneSession : Type 0
RunsInOneSession = (job : Job) (es : List Arrival) → AreNumbered 1 (all_entries job.packages)
    → IsOfRun (state_from (first_service job) es).runs_in (state_from (first_service job) es).session

abbrev pub session_number : Option Session → Option ℕ
session_number None = None
session_number (Some s) = Some s.progress.number

-- the job runs in this session, or its package was given up there
abbrev pub StaysInSession : ℕ → Service → Type 0
StaysInSession n v = (v.runs_in ≡ Some n) ⊎ ((v.runs_in ≡ None) × (session_number v.session ≡ Some n))

-- a job that runs in a session stays there, so later sessions are sent nothing of it
abbrev pub JobKeepsItsSession : Type 0
JobKeepsItsSession = (job : Job) (es : List Arrival) (e : Arrival) (n : ℕ)
    → (state_from (first_service job) es).runs_in ≡ Some n
    → StaysInSession n (next (state_from (first_service job) es) e)

-- among these commands, a Status for the command of the job at this place, which was sent in the session whole or by
-- its last part
pub record IsTold (sent : List Sent) (cs : List Command) (place code : ℕ) : Type 0 where
  pub status : StatusCmd
  pub within : Contains cs (command.Status status)
  pub command : Sent
  pub was_sent : Contains sent command
  pub msg_ref : command.msg ≡ status.msg_ref
  pub cmd_ref : command.command ≡ status.cmd_ref
  pub counts : command.counts ≡ true
  pub number : command.number - 1 ≡ place
  pub code_is : status.code ≡ code

abbrev pub code_at : List Told → ℕ → Option ℕ
code_at told place = (get_or told place untold).code

-- each code was known before, or is that of a Status in a message that is read, for what is still sent then
abbrev pub CodesAreTold : Type 0
CodesAreTold = (v : Service) (s : Session) (m : Parts) (nonce : List ℕ) (place code : ℕ)
    → code_at (accepts v s m nonce).told place ≡ Some code
    → (code_at v.told place ≡ Some code)
    ⊎ (IsTold (still_sent v s m nonce) m.body place code × (is_read v s m nonce ≡ true))

-- Among these commands, Results for the command of the job at this place, with an Item by which this value came whole.
-- It did so behind an object and all pieces of the commands in front of the Results and of the Items in front of that
-- one, in document order.
pub record IsFound (max : ℕ) (sent : List Sent) (object : Object) (cs : List Command) (place : ℕ) (value : Step)
    : Type 0 where
  pub front : List Command
  pub results : ResultsCmd
  pub behind : List Command
  pub stands : cs ≡ front ++ command.Results results ∷ behind
  pub earlier : List Item
  pub item : Item
  pub later : List Item
  pub items_are : results.items ≡ earlier ++ item ∷ later
  pub whole :
      (gather max (gather_all max object (pieces_in sent front ++ map (result_piece results) earlier))
      (result_piece results item)).what ≡ Whole value
  pub command : Sent
  pub is_for : results_for sent results ≡ Some command
  pub was_sent : Contains sent command
  pub msg_ref : results.msg_ref ≡ Some command.msg
  pub cmd_ref : command.command ≡ results.cmd_ref
  pub number : command.number - 1 ≡ place

abbrev pub found_at : List Told → ℕ → List Step
found_at told place = (get_or told place untold).found

-- each value was known before, or came whole by Results in a message that is read, behind the object that the session
-- gathers
abbrev pub ValuesAreFound : Type 0
ValuesAreFound = (v : Service) (s : Session) (m : Parts) (nonce : List ℕ) (place : ℕ) (value : Step)
    → Contains (found_at (accepts v s m nonce).told place) value
    → Contains (found_at v.told place) value
    ⊎ (IsFound v.job.limits.max_obj (still_sent v s m nonce) s.object m.body place value
    × (is_read v s m nonce ≡ true))

-- A message among those that came, in whose session a command of the job was sent, and in it Results for that command,
-- with an Item by whose piece this value came whole: it is what gathering makes of that piece behind all that were read
-- in the session before it. So it is put together from that piece and all earlier ones of the same object, which is a
-- matter of their Source, and not of the commands that the Results are for.
pub record IsResultRead (max : ℕ) (v : Service) (ps : List Piece) (es : List Arrival) (place : ℕ) (value : Step)
    : Type 0 where
  pub done : List Arrival
  pub message : Arrival
  pub later : List Arrival
  pub came : es ≡ done ++ message ∷ later
  pub parts : Parts
  pub parts_are : message.read ≡ Ok parts
  pub results : ResultsCmd
  pub within : Contains parts.body (command.Results results)
  pub item : Item
  pub item_within : Contains results.items item
  pub command : Sent
  pub was_sent : Contains (sent_in (state_from v done).session) command
  pub msg_ref : results.msg_ref ≡ Some command.msg
  pub cmd_ref : command.command ≡ results.cmd_ref
  pub number : command.number - 1 ≡ place
  pub before : List Piece
  pub behind : List Piece
  pub pieces : pieces_from v ps (done ++ message ∷ []) ≡ before ++ result_piece results item ∷ behind
  pub gathered : (gather max (gather_all max Nothing before) (result_piece results item)).what ≡ Whole value
  pub together : IsPutTogether before (result_piece results item) value

-- each value that a server holds is what gathering makes of the pieces that it read, put together from the whole run of
-- those of its object
abbrev pub ValuesAreRead : Type 0
ValuesAreRead = (job : Job) (es : List Arrival) (place : ℕ) (value : Step)
    → Contains (found_at (state_from (first_service job) es).told place) value
    → IsResultRead job.limits.max_obj (first_service job) [] es place value

-- what is kept of a command that is a generic alert, Type and Data of its first Item; of any other command nothing
abbrev pub generic_alert : Command → List KeptAlert
generic_alert (command.Alert a) = if a.code == 1226 then kept_alert a.items ∷ [] else []
generic_alert other = []

-- of a message that is read each generic alert outside its containers is kept, in document order; of another one none
-- is
abbrev pub AlertsAreTold : Type 0
AlertsAreTold = (v : Service) (s : Session) (m : Parts) (nonce : List ℕ)
    → (accepts v s m nonce).alerts
    ≡ v.alerts ++ (if is_read v s m nonce then flat_map generic_alert m.body else [])

-- a message that doesn't pass the checks of its header tells nothing of the job
abbrev pub UnacceptedTellsNothing : Type 0
UnacceptedTellsNothing = (v : Service) (s : Session) (m : Parts) (code : ℕ) → passes code ≡ false → tells v s m code ≡ v

-- ---- messages

-- the message that was sent last has no fault, so its header never makes 400, 505 or 513
abbrev pub IsFaultless : Service → Type 0
IsFaultless v = IfSome v.sent (λ m. fault_of m ≡ None)

abbrev pub SendsNoFault : Type 0
SendsNoFault = (v : Service) (e : Arrival) → IsFaultless v → IsFaultless (next v e)

-- a server of a job that was read has nothing to send but what can be sent
abbrev pub FirstIsReady : Type 0
FirstIsReady = (job : Job) → IsSoundJob job → IsReadyService (first_service job)

-- what is made can be sent, so a machine stays one that has nothing else to send
abbrev pub StaysReady : Type 0
StaysReady = (v : Service) (e : Arrival) → IsReadyService v → IsReadyArrival e → IsReadyService (next v e)

abbrev pub room_of : Option Session → ℕ
room_of None = least_room
room_of (Some s) = s.progress.standing.room

-- the message that answers the one accepted last is no longer than the room that the client told last before it
abbrev pub IsShort : Service → Type 0
IsShort v = IfSome (reply_of v) (λ m. length (canonical m) ≤ room_of v.session)

abbrev pub SendsWithinRoom : Type 0
SendsWithinRoom = (v : Service) (e : Arrival) → IsReadyService v → IsReadyArrival e → IsShort v → IsShort (next v e)
