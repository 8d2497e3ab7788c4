-- Runs of the machine: the events that act, the state that they lead to, and the answers to all events.
use Rattle.std.specs.Prelude.{◌==◌, ◌&&◌, ℕ, Bool, false, if◌then◌else◌, nat_lt, List, [], ◌∷◌, ◌++◌, Option, Some}
use Rattle.std.specs.Prelude.{None, Result, Ok, Err}
use Rattle.syncml_types.specs.Message.{Parts}
use Rattle.wbxml_tokens.specs.declared.reason.Refusal.{Refusal}
use Rattle.dm_machine.specs.Machine.{Session, Machine}
use Rattle.dm_machine.specs.Events.{Event, message, Answer, sent, session_of, is_same_number, last_of, takes, after}
use Rattle.dm_machine.specs.Events.{taken_answer, refusal}

-- ---- by the history

-- the events that act: each is kept where the state that the kept ones before it lead to takes it
abbrev pub fresh : Machine → List Event → List Event
fresh c [] = []
fresh c (e ∷ es) = if takes c e then e ∷ fresh (after c e) es else fresh c es

-- the state that events which act lead to
abbrev pub reached : Machine → List Event → Machine
reached c [] = c
reached c (e ∷ es) = reached (after c e) es

-- the message that an answer sends
abbrev pub message_sent : Answer → Option Parts
message_sent (sent m) = Some m
message_sent other = None

-- a message of this session and MsgID
abbrev pub reads_as : Result Parts Refusal → ℕ → ℕ → Bool
reads_as (Ok m) session msg = is_same_number (session_of m) session && m.header.msg == msg
reads_as (Err refusal) session msg = false

abbrev pub is_message : Event → ℕ → ℕ → Bool
is_message (message read nonce) session msg = reads_as read session msg
is_message other session msg = false

-- what the first coming of a message was answered with, among events that act
abbrev pub first_reply : Machine → List Event → ℕ → ℕ → Option Parts
first_reply c [] session msg = None
first_reply c (e ∷ es) session msg =
    if is_message e session msg then message_sent (taken_answer c e) else first_reply (after c e) es session msg

abbrev pub reply_in : Machine → List Event → Option ℕ → ℕ → Option Parts
reply_in c es None msg = None
reply_in c es (Some session) msg = first_reply c es session msg

abbrev pub first_to_read : Machine → List Event → Result Parts Refusal → Option Parts
first_to_read c es (Ok m) = reply_in c es (session_of m) m.header.msg
first_to_read c es (Err refusal) = None

abbrev pub first_to : Machine → List Event → Event → Option Parts
first_to c es (message read nonce) = first_to_read c es read
first_to c es other = None

-- the answer to an event after others
abbrev pub answer_after : Machine → List Event → Event → Answer
answer_after c before e =
    let acted = fresh c before in
    let now = reached c acted in
    if takes now e then taken_answer now e else refusal now e (first_to c acted e)

abbrev pub answers_after : Machine → List Event → List Event → List Answer
answers_after c before [] = []
answers_after c before (e ∷ es) = answer_after c before e ∷ answers_after c (before ++ e ∷ []) es

-- the answers to all events
abbrev pub answers : Machine → List Event → List Answer
answers c es = answers_after c [] es

-- ---- by the state alone, since the message sent last is kept

-- the message that answers the last accepted one, where one was accepted
abbrev pub kept_in : Option Session → Option Parts
kept_in None = None
kept_in (Some s) = if nat_lt 0 (last_of s) then Some s.sent else None

unfoldable pub answer_now : Machine → Event → Answer
answer_now c e = if takes c e then taken_answer c e else refusal c e (kept_in c.session)

unfoldable pub next : Machine → Event → Machine
next c e = if takes c e then after c e else c

abbrev pub answers_from : Machine → List Event → List Answer
answers_from c [] = []
answers_from c (e ∷ es) = answer_now c e ∷ answers_from (next c e) es

abbrev pub state_from : Machine → List Event → Machine
state_from c [] = c
state_from c (e ∷ es) = state_from (next c e) es
