-- What may happen to the machine, which of it acts, and what is answered.
use Rattle.std.specs.Prelude.{◌==◌, ◌&&◌, ℕ, Bool, true, false, not, if◌then◌else◌, nat_lt, List, Option, None, Some}
use Rattle.std.specs.Prelude.{is_some, Result, Ok, Err}
use Rattle.syncml_types.specs.Message.{Parts}
use Rattle.wbxml_tokens.specs.declared.reason.Refusal.{Refusal}
use Rattle.dm_tree.specs.declared.nodes.Stamp.{Stamp}
use Rattle.dm_atomic.specs.Updates.{is_updating}
pub use Rattle.dm_ends.specs.Commands.{session_of, is_same_number}
use Rattle.dm_machine.specs.declared.kinds.Initiator.{Initiator}
use Rattle.dm_machine.specs.declared.kinds.End.{End}
use Rattle.dm_machine.specs.Machine.{Session, Machine}
use Rattle.dm_machine.specs.Messages.{Outcome, goes_on, ends, begins, accepts, ends_update}

-- the clock is set; a session of an account, a kind and a number is opened; bytes come, which a message or its first
-- refusal stands for, with the nonce of a challenge; no reply came; an update ended
pub data Event : Type 0 where
  clock : Stamp → Event
  opened : ℕ → Initiator → ℕ → Event
  message : Result Parts Refusal → List ℕ → Event
  loss : Event
  act : Bool → Event

pub data Answer : Type 0 where
  clocked : Answer
  sent : Parts → Answer
  kept : Parts → Answer
  again : Parts → Answer
  stale : ℕ → Answer
  stranger : Answer
  no_session : Answer
  refused : Refusal → Answer
  exhausted : ℕ → Answer
  -- with the farewell of a session that was denied
  ended : End → Option Parts → Answer
  acted : Answer
  not_now : Answer

-- ---- which events are taken

-- a message of the open session
abbrev pub is_of : Session → Parts → Bool
is_of s m = is_same_number (session_of m) s.progress.number

abbrev pub last_of : Session → ℕ
last_of s = s.progress.standing.last

abbrev pub takes_message : Option Session → Parts → Bool
takes_message None m = false
takes_message (Some s) m = is_of s m && nat_lt (last_of s) m.header.msg

abbrev pub takes_read : Option Session → Result Parts Refusal → Bool
takes_read s (Ok m) = takes_message s m
takes_read s (Err place) = false

unfoldable pub takes : Machine → Event → Bool
takes c (clock stamp) = true
takes c (opened account kind number) = nat_lt c.begun number
takes c (message read nonce) = takes_read c.session read
takes c loss = false
takes c (act ok) = not (is_some c.session) && is_updating c.engine.tree

-- ---- what an event does that is taken

abbrev pub message_outcome : Machine → Option Session → Parts → List ℕ → Outcome
message_outcome c None m nonce = goes_on c
message_outcome c (Some s) m nonce = accepts c s.progress m nonce

abbrev pub outcome_of : Machine → Result Parts Refusal → List ℕ → Outcome
outcome_of c (Ok m) nonce = message_outcome c c.session m nonce
outcome_of c (Err place) nonce = goes_on c

abbrev pub outcome_machine : Outcome → Machine
outcome_machine (goes_on c) = c
outcome_machine (ends c end) = c

unfoldable pub after : Machine → Event → Machine
after c (clock stamp) = record c { clock = stamp }
after c (opened account kind number) = begins c account kind number
after c (message read nonce) = outcome_machine (outcome_of c read nonce)
after c loss = c
after c (act ok) = ends_update c ok

-- ---- what it is answered

abbrev pub sent_in : Option Session → Answer
sent_in None = no_session
sent_in (Some s) = sent s.sent

abbrev pub outcome_answer : Outcome → Answer
outcome_answer (goes_on c) = sent_in c.session
outcome_answer (ends c end) = ended end c.farewell

unfoldable pub taken_answer : Machine → Event → Answer
taken_answer c (clock stamp) = clocked
taken_answer c (opened account kind number) = sent_in (begins c account kind number).session
taken_answer c (message read nonce) = outcome_answer (outcome_of c read nonce)
taken_answer c loss = no_session
taken_answer c (act ok) = acted

-- ---- what is answered to an event that isn't taken, where a first coming of the same message was answered so

abbrev pub repeat_answer : Session → Option Parts → Answer
repeat_answer s None = stale (last_of s)
repeat_answer s (Some first) = kept first

abbrev pub old_message : Session → Parts → Option Parts → Answer
old_message s m first =
    if not (is_of s m) then stranger
    else if last_of s == m.header.msg then repeat_answer s first
    else stale (last_of s)

abbrev pub message_refusal : Option Session → Parts → Option Parts → Answer
message_refusal None m first = no_session
message_refusal (Some s) m first = old_message s m first

abbrev pub read_refusal : Option Session → Result Parts Refusal → Option Parts → Answer
read_refusal s (Ok m) first = message_refusal s m first
read_refusal s (Err place) first = refused place

abbrev pub loss_answer : Option Session → Answer
loss_answer None = no_session
loss_answer (Some s) = again s.sent

unfoldable pub refusal : Machine → Event → Option Parts → Answer
refusal c (clock stamp) first = clocked
refusal c (opened account kind number) first = exhausted c.begun
refusal c (message read nonce) first = read_refusal c.session read first
refusal c loss first = loss_answer c.session
refusal c (act ok) first = not_now
