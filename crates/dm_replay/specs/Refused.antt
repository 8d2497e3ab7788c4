-- What it means that a trace is refused at a line, by the lines before it and what stands behind them.
use Rattle.std.specs.Prelude.{◌≡◌, ◌≢◌, ◌⊎◌, ◌<◌, ◌≤◌, ◌+◌, ℕ, Bool, false, nat_lt, List, [], ◌∷◌, ◌++◌, length, take}
use Rattle.std.specs.Prelude.{Option, Some, None, Result, Ok, Err}
use Rattle.dm_base.specs.Lines.{IsFeedless, line_limit, run_limit}
use Rattle.dm_base.specs.declared.lines.LineReason.{LineReason}
use Rattle.dm_base.specs.declared.lines.LineReason.TheVariants as reason
use Rattle.dm_machine.specs.Events.{Event as Happening}
use Rattle.dm_start.specs.declared.heads.Head.TheVariants as head
use Rattle.dm_start.specs.Start.{Setup, Section, opening, after_line}
use Rattle.dm_replay.specs.declared.events.Event.{Event}
use Rattle.dm_replay.specs.Events.{event_of, happening_of}
use Rattle.dm_replay.specs.Trace.{Stop, bad, Ending, whole, stopped, Begun, began, unbegun, begun_of, trace_of, told_in}
use Rattle.dm_replay.specs.Trace.{servers_of}
use Rattle.dm_replay.specs.Laws.{IsLine, AreLines, text_of}

-- how far the lines of a trace have come: in its start section, among its events, or behind its `end`
pub data Reached : Type 0 where
  in_start : Section → Reached
  among : Setup → Reached
  behind_end : Reached

-- ---- a line

-- behind `begin` come the events
abbrev pub start_reaches : Section → Option Setup → Reached
start_reaches s None = in_start s
start_reaches s (Some told) = among told

abbrev pub by_section : Result Section LineReason → Result Reached LineReason
by_section (Ok s) = Ok (start_reaches s (told_in s))
by_section (Err why) = Err why

abbrev pub event_reaches : Setup → Option Happening → Reached
event_reaches told (Some e) = among told
event_reaches told None = behind_end

abbrev pub by_event : Setup → Result Event LineReason → Result Reached LineReason
by_event told (Ok said) = Ok (event_reaches told (happening_of said))
by_event told (Err why) = Err why

-- how far a trace has come behind one more line, or why that is refused; behind `end` no line may stand
abbrev pub reached_by : Reached → List ℕ → Result Reached LineReason
reached_by (in_start s) line = by_section (after_line s line)
reached_by (among told) line = by_event told (event_of told.version (servers_of told.accounts) line)
reached_by behind_end line = Err reason.Extra

-- ---- the lines before

abbrev pub then_reached : Result Reached LineReason → (Reached → Result Reached LineReason) → Result Reached LineReason
then_reached (Ok r) rest = rest r
then_reached (Err why) rest = Err why

abbrev pub lines_reach_from : Reached → List (List ℕ) → Result Reached LineReason
lines_reach_from r [] = Ok r
lines_reach_from r (line ∷ lines) = then_reached (reached_by r line) (λ next. lines_reach_from next lines)

-- how far lines that are all taken come
abbrev pub lines_reach : List (List ℕ) → Result Reached LineReason
lines_reach lines = lines_reach_from (in_start (opening head.First)) lines

-- ---- what stands behind them

-- more bytes than a line may have, without a line feed
abbrev pub BeginsLong : List ℕ → Type 0
BeginsLong rest =
    (line : List ℕ) × (behind : List ℕ) × (rest ≡ line ++ behind) × IsFeedless line × (line_limit < length line)

-- this line, with its line feed
abbrev pub BeginsWith : List ℕ → List ℕ → Type 0
BeginsWith line rest = (behind : List ℕ) × (rest ≡ line ++ 10 ∷ behind) × IsLine line

-- no line feed, no more bytes than a line may have, and nothing follows
abbrev pub IsCutThere : List ℕ → Bool → Type 0
IsCutThere rest more = IsFeedless rest × (length rest ≤ line_limit) × (more ≡ false)

-- too many bytes for a line, none of them behind the last line feed, or a line that is refused
abbrev pub IsRefusedLine : Reached → List ℕ → Bool → LineReason → Type 0
IsRefusedLine r rest more why =
    (BeginsLong rest × (why ≡ reason.Long)) ⊎ ((IsCutThere rest more × (why ≡ reason.Cut))
    ⊎ ((line : List ℕ) × BeginsWith line rest × (reached_by r line ≡ Err why)))

-- whatever stands behind `end` is one line too many
abbrev pub IsExtra : List ℕ → Bool → Type 0
IsExtra rest more =
    BeginsLong rest ⊎ ((IsCutThere rest more × (rest ≢ [])) ⊎ ((line : List ℕ) × BeginsWith line rest))

abbrev pub IsRefusedNext : Reached → List ℕ → Bool → LineReason → Type 0
IsRefusedNext behind_end rest more why = IsExtra rest more × (why ≡ reason.Extra)
IsRefusedNext (in_start s) rest more why = IsRefusedLine (in_start s) rest more why
IsRefusedNext (among told) rest more why = IsRefusedLine (among told) rest more why

-- line n is the first that is refused: those before it are taken, each within its limit; what a run looks at is these
-- and the rest
pub record IsRefusedTrace (bytes : List ℕ) (n : ℕ) (why : LineReason) : Type 0 where
  pub before : List (List ℕ)
  pub rest : List ℕ
  pub are : take run_limit bytes ≡ text_of before ++ rest
  pub lines : AreLines before
  pub number : n ≡ 1 + length before
  pub reached : Reached
  pub taken : lines_reach before ≡ Ok reached
  pub refused : IsRefusedNext reached rest (nat_lt run_limit (length bytes)) why

-- ---- the laws

abbrev pub ending_stop : Ending → Option Stop
ending_stop whole = None
ending_stop (stopped stop) = Some stop

abbrev pub begun_stop : Begun → Option Stop
begun_stop (unbegun stop) = Some stop
begun_stop (began n told input) = ending_stop (trace_of n told input).ending

-- where a run over these bytes stops before the end of a whole trace
abbrev pub stop_in : List ℕ → Option Stop
stop_in bytes = begun_stop (begun_of bytes)

-- what stops a run is the first line that is refused
abbrev pub RefusalsAreFirst : Type 0
RefusalsAreFirst =
    (bytes : List ℕ) (n : ℕ) (why : LineReason) → stop_in bytes ≡ Some (bad n why) → IsRefusedTrace bytes n why

-- and each first line that is refused stops it
abbrev pub RefusalsAreTold : Type 0
RefusalsAreTold =
    (bytes : List ℕ) (n : ℕ) (why : LineReason) → IsRefusedTrace bytes n why → stop_in bytes ≡ Some (bad n why)
