-- Runs of the machine: the messages that it takes, the state that they lead to, and the answers to all that come.
use Rattle.std.specs.Prelude.{◌==◌, ◌&&◌, ℕ, Bool, false, if◌then◌else◌, List, [], ◌∷◌, ◌++◌, Option, Some, None}
use Rattle.std.specs.Prelude.{Result, Ok, Err}
use Rattle.syncml_types.specs.Message.{Parts}
use Rattle.wbxml_tokens.specs.declared.reason.Refusal.{Refusal}
use Rattle.dm_ends.specs.Commands.{is_same_number}
use Rattle.dm_service.specs.Service.{Service}
use Rattle.dm_service.specs.Events.{Arrival, Answer, sent, number_of, takes, after, taken_answer, reply_of, refusal}

-- ---- by the history

-- those that are taken: each is kept where the state that the kept ones before it lead to takes it
abbrev pub fresh : Service → List Arrival → List Arrival
fresh v [] = []
fresh v (e ∷ es) = if takes v e then e ∷ fresh (after v e) es else fresh v es

-- the state that messages which are taken lead to
abbrev pub reached : Service → List Arrival → Service
reached v [] = v
reached v (e ∷ es) = reached (after v e) es

-- the message that an answer sends
abbrev pub message_sent : Answer → Option Parts
message_sent (sent m) = Some m
message_sent other = None

-- a message of this session and MsgID
abbrev pub reads_as : Result Parts Refusal → ℕ → ℕ → Bool
reads_as (Ok m) session msg = is_same_number (number_of m) session && m.header.msg == msg
reads_as (Err refusal) session msg = false

-- what the first coming of a message was answered with, among messages that are taken
abbrev pub first_reply : Service → List Arrival → ℕ → ℕ → Option Parts
first_reply v [] session msg = None
first_reply v (e ∷ es) session msg =
    if reads_as e.read session msg then message_sent (taken_answer v e) else first_reply (after v e) es session msg

abbrev pub reply_in : Service → List Arrival → Option ℕ → ℕ → Option Parts
reply_in v es None msg = None
reply_in v es (Some session) msg = first_reply v es session msg

abbrev pub first_to : Service → List Arrival → Result Parts Refusal → Option Parts
first_to v es (Ok m) = reply_in v es (number_of m) m.header.msg
first_to v es (Err refusal) = None

-- the answer to what comes after others
abbrev pub answer_after : Service → List Arrival → Arrival → Answer
answer_after v before e =
    let taken = fresh v before in
    let now = reached v taken in
    if takes now e then taken_answer now e else refusal now e (first_to v taken e.read)

abbrev pub answers_after : Service → List Arrival → List Arrival → List Answer
answers_after v before [] = []
answers_after v before (e ∷ es) = answer_after v before e ∷ answers_after v (before ++ e ∷ []) es

-- the answers to all that come
abbrev pub answers : Service → List Arrival → List Answer
answers v es = answers_after v [] es

-- ---- by the state alone, since the message that was sent last is kept

unfoldable pub answer_now : Service → Arrival → Answer
answer_now v e = if takes v e then taken_answer v e else refusal v e (reply_of v)

unfoldable pub next : Service → Arrival → Service
next v e = if takes v e then after v e else v

abbrev pub answers_from : Service → List Arrival → List Answer
answers_from v [] = []
answers_from v (e ∷ es) = answer_now v e ∷ answers_from (next v e) es

abbrev pub state_from : Service → List Arrival → Service
state_from v [] = v
state_from v (e ∷ es) = state_from (next v e) es
