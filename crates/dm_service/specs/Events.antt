-- Which messages the server's machine takes, and what is answered.
use Rattle.std.specs.Prelude.{◌==◌, ◌&&◌, ◌||◌, ◌^◌, ℕ, Bool, true, false, not, if◌then◌else◌, nat_lt, List, Option}
use Rattle.std.specs.Prelude.{None, Some, Result, Ok, Err}
use Rattle.syncml_types.specs.Message.{Parts}
use Rattle.wbxml_tokens.specs.declared.reason.Refusal.{Refusal}
use Rattle.dm_ends.specs.Commands.{session_of}
use Rattle.dm_service.specs.Service.{Session, Service}
use Rattle.dm_service.specs.Messages.{first_session, begins, accepts}

-- bytes come, which a message or its first refusal stands for, with the nonce of a challenge
pub record Arrival : Type 0 where
  pub read : Result Parts Refusal
  pub nonce : List ℕ

-- a message that is read comes
abbrev pub arrival : Parts → List ℕ → Arrival
arrival m nonce = record { read = Ok m; nonce = nonce }

pub data Answer : Type 0 where
  sent : Parts → Answer
  kept : Parts → Answer
  stale : Answer
  stranger : Answer
  refused : Refusal → Answer
  ended : Answer

-- ---- which messages are taken

abbrev pub in_range : Option ℕ → Option ℕ
in_range None = None
in_range (Some n) = if nat_lt 0 n && nat_lt n (2 ^ 32) then Some n else None

-- the session that a message names: a number from 1 to 4,294,967,295
abbrev pub number_of : Parts → Option ℕ
number_of m = in_range (session_of m)

abbrev pub last_of : Session → ℕ
last_of s = s.progress.standing.last

-- a message that begins a session, or a new one of a session that isn't over
abbrev pub takes_in : Option Session → ℕ → Parts → Bool
takes_in None n m = true
takes_in (Some s) n m =
    nat_lt s.progress.number n
    || (s.progress.number == n && nat_lt (last_of s) m.header.msg && not s.progress.is_over)

abbrev pub takes_number : Option Session → Option ℕ → Parts → Bool
takes_number s None m = false
takes_number s (Some n) m = takes_in s n m

abbrev pub takes_message : Service → Parts → Bool
takes_message v m = takes_number v.session (number_of m) m

abbrev pub takes_read : Service → Result Parts Refusal → Bool
takes_read v (Ok m) = takes_message v m
takes_read v (Err place) = false

unfoldable pub takes : Service → Arrival → Bool
takes v e = takes_read v e.read

-- ---- what a message does that is taken

abbrev pub opens_session : Service → ℕ → Parts → List ℕ → Service
opens_session v n m nonce = accepts (begins v n) (first_session v.job.account n) m nonce

abbrev pub after_in_session : Service → Option Session → ℕ → Parts → List ℕ → Service
after_in_session v None n m nonce = opens_session v n m nonce
after_in_session v (Some s) n m nonce = if s.progress.number == n then accepts v s m nonce else opens_session v n m nonce

abbrev pub after_number : Service → Option ℕ → Parts → List ℕ → Service
after_number v None m nonce = v
after_number v (Some n) m nonce = after_in_session v v.session n m nonce

abbrev pub after_read : Service → Result Parts Refusal → List ℕ → Service
after_read v (Ok m) nonce = after_number v (number_of m) m nonce
after_read v (Err place) nonce = v

unfoldable pub after : Service → Arrival → Service
after v e = after_read v e.read e.nonce

-- ---- what it is answered

abbrev pub is_answered : Option Session → Bool
is_answered None = false
is_answered (Some s) = s.progress.answered

-- the message that answers the one accepted last, where one does
abbrev pub reply_of : Service → Option Parts
reply_of v = if is_answered v.session then v.sent else None

abbrev pub sent_or_ended : Option Parts → Answer
sent_or_ended None = ended
sent_or_ended (Some m) = sent m

unfoldable pub taken_answer : Service → Arrival → Answer
taken_answer v e = sent_or_ended (reply_of (after v e))

-- ---- what is answered to a message that isn't taken, where a first coming of the same message was answered so

abbrev pub kept_or_ended : Option Parts → Answer
kept_or_ended None = ended
kept_or_ended (Some first) = kept first

abbrev pub old_message : Session → ℕ → Parts → Option Parts → Answer
old_message s n m first =
    if nat_lt n s.progress.number then stale
    else if nat_lt m.header.msg (last_of s) then stale
    else if m.header.msg == last_of s then kept_or_ended first
    else ended

abbrev pub old_in : Option Session → ℕ → Parts → Option Parts → Answer
old_in None n m first = stranger
old_in (Some s) n m first = old_message s n m first

abbrev pub number_refusal : Service → Option ℕ → Parts → Option Parts → Answer
number_refusal v None m first = stranger
number_refusal v (Some n) m first = old_in v.session n m first

abbrev pub read_refusal : Service → Result Parts Refusal → Option Parts → Answer
read_refusal v (Ok m) first = number_refusal v (number_of m) m first
read_refusal v (Err place) first = refused place

unfoldable pub refusal : Service → Arrival → Option Parts → Answer
refusal v e first = read_refusal v e.read first
