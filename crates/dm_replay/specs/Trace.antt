-- A trace: its start section, its events, and how it ends.
use Rattle.std.specs.Prelude.{◌+◌, ◌==◌, ℕ, Bool, if◌then◌else◌, nat_lt, List, [], ◌∷◌, length, map, Option, Some, None}
use Rattle.std.specs.Prelude.{Result, Ok, Err}
use Rattle.dm_base.specs.Lines.{line_limit, run_limit}
use Rattle.dm_base.specs.declared.lines.LineReason.{LineReason}
use Rattle.dm_base.specs.declared.lines.LineReason.TheVariants as reason
use Rattle.dm_auth.specs.declared.accounts.Account.{Account}
use Rattle.dm_machine.specs.Events.{Event as Happening}
use Rattle.dm_start.specs.declared.heads.Head.TheVariants as head
use Rattle.dm_start.specs.declared.telling.Phase.TheVariants as phase
use Rattle.dm_start.specs.Start.{Setup, Section, opening, telling, after_line}
use Rattle.dm_replay.specs.declared.events.Event.{Event}
use Rattle.dm_replay.specs.Input.{Input, input_of}
use Rattle.dm_replay.specs.Events.{event_of, happening_of}

-- where a run stops before the end of a whole trace: at the first line that is refused, or past the bytes that it looks
-- at
pub data Stop : Type 0 where
  bad : ℕ → LineReason → Stop
  too_long : Stop

pub data Ending : Type 0 where
  whole : Ending
  stopped : Stop → Ending

pub record Trace : Type 0 where
  pub events : List Happening
  pub ending : Ending

-- more than a line may have, without its line feed
abbrev pub is_long : List ℕ → Bool
is_long line = nat_lt line_limit (length line)

-- where no whole line is left for line n
abbrev pub tail_stop : ℕ → List ℕ → Bool → Stop
tail_stop n tail more = if is_long tail then bad n reason.Long else if more then too_long else bad n reason.Cut

-- ---- the start section

-- it is whole and line n comes next, or the run stops
pub data Begun : Type 0 where
  began : ℕ → Setup → Input → Begun
  unbegun : Stop → Begun

-- what was told, where `begin` came
abbrev pub told_in : Section → Option Setup
told_in (opening h) = None
told_in (telling phase.Accounts told) = None
told_in (telling phase.Nodes told) = None
told_in (telling phase.Begun told) = Some told

-- the lines behind line n, which made this section
abbrev pub behind_begin : ℕ → Option Setup → Input → Begun → Begun
behind_begin n None input rest = rest
behind_begin n (Some told) input rest = began (n + 1) told input

abbrev pub start_line : ℕ → Result Section LineReason → Input → (Section → Begun) → Begun
start_line n (Ok s) input rest = behind_begin n (told_in s) input (rest s)
start_line n (Err why) input rest = unbegun (bad n why)

-- the lines from line n on, where the start section has come so far
abbrev pub start_from : ℕ → Section → List (List ℕ) → List ℕ → Bool → Begun
start_from n s [] tail more = unbegun (tail_stop n tail more)
start_from n s (line ∷ lines) tail more =
    if is_long line then unbegun (bad n reason.Long)
    else start_line n (after_line s line) (record { lines = lines; tail = tail; more = more })
    (λ next. start_from (n + 1) next lines tail more)

-- the start section of a whole input
abbrev pub begun_in : Input → Begun
begun_in i = start_from 1 (opening head.First) i.lines i.tail i.more

abbrev pub begun_of : List ℕ → Begun
begun_of bytes = begun_in (input_of run_limit bytes)

-- ---- the events

abbrev pub no_events : Ending → Trace
no_events ending = record { events = []; ending = ending }

abbrev pub with_event : Happening → Trace → Trace
with_event e t = record { events = e ∷ t.events; ending = t.ending }

-- what stands behind the `end` line, which is to be nothing
abbrev pub ending_behind : ℕ → List ℕ → Bool → Ending
ending_behind n tail more =
    if is_long tail then stopped (bad n reason.Extra)
    else if more then stopped too_long
    else if length tail == 0 then whole
    else stopped (bad n reason.Extra)

abbrev pub end_from : ℕ → List (List ℕ) → List ℕ → Bool → Ending
end_from n [] tail more = ending_behind n tail more
end_from n (line ∷ lines) tail more = stopped (bad n reason.Extra)

-- the rest of a trace behind a line that says this, or nothing but that the trace ends
abbrev pub behind_said : Option Happening → Ending → Trace → Trace
behind_said (Some e) behind rest = with_event e rest
behind_said None behind rest = no_events behind

abbrev pub event_line : ℕ → Result Event LineReason → Ending → Trace → Trace
event_line n (Ok said) behind rest = behind_said (happening_of said) behind rest
event_line n (Err why) behind rest = no_events (stopped (bad n why))

-- events and then `end`, from line n on, in a trace of this version whose accounts have these servers
abbrev pub events_from : ℕ → List (List ℕ) → ℕ → List (List ℕ) → List ℕ → Bool → Trace
events_from version ids n [] tail more = no_events (stopped (tail_stop n tail more))
events_from version ids n (line ∷ lines) tail more =
    if is_long line then no_events (stopped (bad n reason.Long))
    else event_line n (event_of version ids line) (end_from (n + 1) lines tail more)
    (events_from version ids (n + 1) lines tail more)

abbrev pub servers_of : List Account → List (List ℕ)
servers_of accounts = map (λ (a : Account). a.server) accounts

-- the events behind a start section
abbrev pub trace_of : ℕ → Setup → Input → Trace
trace_of n told i = events_from told.version (servers_of told.accounts) n i.lines i.tail i.more
