-- What holds of the machine's runs and of its messages, over the definitions alone.
use Rattle.std.specs.Prelude.{◌≡◌, ◌<◌, ◌≤◌, length, IfSome, ◌⊎◌, ℕ, false, List, [], ◌∷◌, Option, Some, None, Result}
use Rattle.std.specs.Prelude.{Ok, Err, ⊤, IsSome}
use Rattle.dm_machine.specs.declared.kinds.End.TheVariants.{Finished, Aborted, Denied}
use Rattle.dm_base.specs.Limits.{least_room}
use Rattle.syncml_types.specs.Message.{Parts}
use Rattle.syncml_types.specs.Canonical.{canonical}
use Rattle.wbxml_tokens.specs.declared.reason.Refusal.{Refusal}
use Rattle.dm_auth.specs.declared.accounts.Account.{Account}
use Rattle.dm_headers.specs.Checks.{passes}
use Rattle.dm_objects.specs.declared.object.Object.TheVariants.{Nothing}
use Rattle.dm_atomic.specs.Posts.{NoneLost, all_asked}
use Rattle.dm_atomic.specs.Run.{State, committed}
use Rattle.dm_atomic.specs.Updates.{TellsStarted}
use Rattle.dm_machine.specs.declared.progress.Progress.{Progress}
use Rattle.dm_machine.specs.Machine.{Machine, Session}
use Rattle.dm_machine.specs.Messages.{Outcome, goes_on, ends, execute, run_of, accepts}
use Rattle.dm_machine.specs.Events.{Event, opened, message, session_of}
use Rattle.dm_machine.specs.History.{fresh, reached, answers, answers_from, state_from, next}
use Rattle.dm_machine.specs.Ready.{IsReadyMachine, IsReadyEvent}
use Rattle.dm_ends.specs.Commands.{origin_of}

-- ---- runs

-- a client that no session was begun on
abbrev pub IsUnused : Machine → Type 0
IsUnused c = (c.begun ≡ 0) × (c.session ≡ None)

-- the answers by the history are those by the state, and so is the state
abbrev pub StateIsEnough : Type 0
StateIsEnough = (c : Machine) (es : List Event) → IsUnused c
    → (answers c es ≡ answers_from c es) × (reached c (fresh c es) ≡ state_from c es)

-- where an event stands: its session's number, and its MsgID in it
pub record Position : Type 0 where
  pub session : ℕ
  pub msg : ℕ

abbrev pub number_or_zero : Option ℕ → ℕ
number_or_zero None = 0
number_or_zero (Some n) = n

abbrev pub message_position : Result Parts Refusal → List Position
message_position (Ok m) = record { session = number_or_zero (session_of m); msg = m.header.msg } ∷ []
message_position (Err refusal) = []

-- a session is opened at MsgID 0; the clock and the end of an update stand nowhere
abbrev pub position_of : Event → List Position
position_of (opened account kind number) = record { session = number; msg = 0 } ∷ []
position_of (message read nonce) = message_position read
position_of other = []

-- later in session numbers, or in the same session at a greater MsgID
abbrev pub IsBefore : Position → Position → Type 0
IsBefore p q = (p.session < q.session) ⊎ ((p.session ≡ q.session) × (p.msg < q.msg))

abbrev pub Precedes : Position → List Position → Type 0
Precedes p [] = ⊤
Precedes p (q ∷ qs) = IsBefore p q

abbrev pub or_last : Position → List Position → Position
or_last p [] = p
or_last p (q ∷ qs) = q

-- each event that stands somewhere stands behind the one before it
abbrev pub Rise : Position → List Event → Type 0
Rise p [] = ⊤
Rise p (e ∷ es) = Precedes p (position_of e) × Rise (or_last p (position_of e)) es

-- accepted message numbers rise, so none is accepted twice
abbrev pub AcceptedNumbersRise : Type 0
AcceptedNumbersRise = (c : Machine) (es : List Event) → IsUnused c → Rise (record { session = 0; msg = 0 }) (fresh c es)

-- no event makes accounts more or fewer
abbrev pub AccountsStay : Type 0
AccountsStay = (c : Machine) (e : Event) → length (next c e).accounts ≡ length c.accounts

-- an update was started and has no result yet exactly where one runs, and no group is open where no session is
pub record IsSteady (c : Machine) : Type 0 where
  pub started : TellsStarted c.engine
  pub closed : c.session ≡ None → c.engine.group ≡ None

-- so it is whatever happens, where it was so before
abbrev pub StaysSteady : Type 0
StaysSteady = (c : Machine) (e : Event) → IsSteady c → IsSteady (next c e)

-- ---- messages

-- each step and each container of a message that is executed has exactly one Status made, now or at its group's close
abbrev pub OneStatusEach : Type 0
OneStatusEach = (c : Machine) (a : Account) (m : Parts)
    → NoneLost (all_asked (origin_of m) m.body) (execute c a m).made c.engine.group (execute c a m).state.group

-- of a message that doesn't pass the checks of its header nothing is executed
abbrev pub ExecutesNothing : Type 0
ExecutesNothing = (c : Machine) (a : Account) (m : Parts) (code : ℕ) → passes code ≡ false
    → ((run_of c a m code).state ≡ c.engine) × ((run_of c a m code).made ≡ [])

-- at an end nothing waits and nothing is unfinished, and the tree before an open group stands
pub record GivesUp (before : State) (c : Machine) : Type 0 where
  pub tree : c.engine.tree ≡ committed before
  pub queue : c.queue ≡ []
  pub session : c.session ≡ None
  pub group : c.engine.group ≡ None
  pub object : c.engine.object ≡ Nothing

abbrev pub GivesUpAtEnd : State → Outcome → Type 0
GivesUpAtEnd before (goes_on c) = ⊤
GivesUpAtEnd before (ends c end) = GivesUp before c

abbrev pub EndsGiveUp : Type 0
EndsGiveUp = (c : Machine) (p : Progress) (m : Parts) (nonce : List ℕ) → GivesUpAtEnd c.engine (accepts c p m nonce)

-- a session that is denied ends with a farewell
abbrev pub HasFarewell : Outcome → Type 0
HasFarewell (goes_on c) = ⊤
HasFarewell (ends c Denied) = IsSome c.farewell
HasFarewell (ends c Finished) = ⊤
HasFarewell (ends c Aborted) = ⊤

abbrev pub DeniedHasAFarewell : Type 0
DeniedHasAFarewell = (c : Machine) (p : Progress) (m : Parts) (nonce : List ℕ) → HasFarewell (accepts c p m nonce)

-- ---- what can be sent

-- what the first package tells can be sent, what is executed leaves a state as it has to be, and what it tells can be
-- sent; so a machine stays one that has nothing else to send
abbrev pub StaysReady : Type 0
StaysReady = (c : Machine) (e : Event) → IsReadyMachine c → IsReadyEvent c e → IsReadyMachine (next c e)

-- the message sent last is no longer than the room that the server told last before it, and a farewell than any room
pub record IsShort (c : Machine) : Type 0 where
  pub sent : IfSome c.session (λ (s : Session). length (canonical s.sent) ≤ s.progress.standing.room)
  pub farewell : IfSome c.farewell (λ m. length (canonical m) ≤ least_room)

abbrev pub SendsWithinRoom : Type 0
SendsWithinRoom = (c : Machine) (e : Event) → IsReadyMachine c → IsReadyEvent c e → IsShort c → IsShort (next c e)
