-- What the lines behind a job say to both ends.
use Rattle.std.specs.Prelude.{◌&&◌, ◌<◌, ◌≤◌, ⊤, ℕ, if◌then◌else◌, nat_lt, nat_le, List, [], ◌∷◌, codes, Option, Some}
use Rattle.std.specs.Prelude.{None}
use Rattle.std.specs.Prelude.{Result, Ok, Err}
use Rattle.std.specs.Str.Parse.{digits_value}
use Rattle.dm_base.specs.Fields.{parts, is_numeral, num_of}
use Rattle.dm_base.specs.declared.lines.LineReason.{LineReason}
use Rattle.dm_base.specs.declared.lines.LineReason.TheVariants as reason
use Rattle.dm_fields.specs.Fields.{begins_with}
use Rattle.dm_replay.specs.declared.events.Event.{Event as TraceEvent}
use Rattle.dm_replay.specs.declared.events.Event.TheVariants as trace
use Rattle.dm_replay.specs.Events.{event_of as trace_event_of}
use Rattle.dm_pair.specs.declared.events.PairEvent.{PairEvent}
use Rattle.dm_pair.specs.declared.events.PairEvent.TheVariants as event

-- ---- the fields of each line

-- the number of a message, where so many were sent; one that passes 64 bits was not sent either
abbrev pub sent_number : ℕ → List ℕ → Result ℕ LineReason
sent_number count text =
    if is_numeral text
    then if nat_lt 0 (digits_value 10 text) && nat_le (digits_value 10 text) count then Ok (digits_value 10 text)
    else Err reason.Message
    else Err reason.Fields

abbrev pub told_by : (ℕ → PairEvent) → Result ℕ LineReason → Result PairEvent LineReason
told_by says (Ok number) = Ok (says number)
told_by says (Err why) = Err why

-- `up NUM`
abbrev pub up_in : ℕ → List (List ℕ) → Result PairEvent LineReason
up_in ups (word ∷ number ∷ []) = told_by (λ n. event.Up n) (sent_number ups number)
up_in ups other = Err reason.Fields

-- `down NUM`
abbrev pub down_in : ℕ → List (List ℕ) → Result PairEvent LineReason
down_in downs (word ∷ number ∷ []) = told_by (λ n. event.Down n) (sent_number downs number)
down_in downs other = Err reason.Fields

abbrev pub rounds_by : Option ℕ → Result PairEvent LineReason
rounds_by None = Err reason.Fields
rounds_by (Some rounds) = if nat_lt 0 rounds && nat_le rounds 100000 then Ok (event.Run rounds) else Err reason.Fields

-- `run NUM`
abbrev pub run_in : List (List ℕ) → Result PairEvent LineReason
run_in (word ∷ number ∷ []) = rounds_by (num_of number)
run_in other = Err reason.Fields

-- an event of a trace that is one of both ends too
abbrev pub of_trace : TraceEvent → Result PairEvent LineReason
of_trace (trace.Open account kind session) = Ok (event.Open account kind session)
of_trace trace.Loss = Ok event.Loss
of_trace (trace.Act ok) = Ok (event.Act ok)
of_trace trace.End = Ok event.End
of_trace (trace.Msg nonce bytes) = Err reason.Word
of_trace (trace.Clock stamp) = Err reason.Word

abbrev pub said_of_trace : Result TraceEvent LineReason → Result PairEvent LineReason
said_of_trace (Ok said) = of_trace said
said_of_trace (Err why) = Err why

-- `open`, `loss`, `act` and `end`, as in a trace of version 1
abbrev pub trace_line : List (List ℕ) → List ℕ → Result PairEvent LineReason
trace_line ids line =
    if begins_with (codes "msg") line then Err reason.Word else said_of_trace (trace_event_of 1 ids line)

-- ---- any line

-- what a line says where the client's accounts have these servers and so many messages were sent up and down, or the
-- first reason why it is refused
unfoldable pub pair_event_of : List (List ℕ) → ℕ → ℕ → List ℕ → Result PairEvent LineReason
pair_event_of ids ups downs line =
    if begins_with (codes "up") line then up_in ups (parts line)
    else if begins_with (codes "down") line then down_in downs (parts line)
    else if begins_with (codes "run") line then run_in (parts line)
    else trace_line ids line

-- an event of a client with so many accounts, where so many messages were sent up and down
abbrev pub IsPairEvent : ℕ → ℕ → ℕ → PairEvent → Type 0
IsPairEvent accounts ups downs (event.Open account kind session) = account < accounts
IsPairEvent accounts ups downs (event.Up number) = (0 < number) × (number ≤ ups)
IsPairEvent accounts ups downs (event.Down number) = (0 < number) × (number ≤ downs)
IsPairEvent accounts ups downs event.Loss = ⊤
IsPairEvent accounts ups downs (event.Act ok) = ⊤
IsPairEvent accounts ups downs (event.Run count) = (0 < count) × (count ≤ 100000)
IsPairEvent accounts ups downs event.End = ⊤
