-- The text of both ends on a schedule: what its lines tell one after the other, and what is written for them.
use Rattle.std.specs.Prelude.{◌+◌, ℕ, Bool, true, false, if◌then◌else◌, nat_lt, List, [], ◌∷◌, ◌++◌, length}
use Rattle.std.specs.Prelude.{bytes_eq, codes}
use Rattle.std.specs.Prelude.{Option, Some, None, Result, Ok, Err}
use Rattle.dm_base.specs.Lines.{run_limit, line_feed}
use Rattle.dm_base.specs.declared.lines.LineReason.{LineReason}
use Rattle.dm_base.specs.declared.lines.LineReason.TheVariants as reason
use Rattle.dm_start.specs.declared.heads.Head.TheVariants as head
use Rattle.dm_start.specs.Start.{Setup, Section, opening, after_line as section_after}
use Rattle.dm_start.specs.TreeText.{tree_text}
use Rattle.dm_job.specs.declared.job.Job.{Job}
use Rattle.dm_job.specs.declared.draft.Reading.{Reading}
use Rattle.dm_job.specs.declared.draft.Reading.TheVariants as reading
use Rattle.dm_job.specs.Reading.{reading_after as job_after}
use Rattle.dm_job.specs.Texts.{segments, is_long, unended, job_in}
use Rattle.dm_service.specs.Messages.{first_service}
use Rattle.dm_service.specs.Report.{report_text}
use Rattle.dm_replay.specs.Trace.{servers_of, told_in}
use Rattle.dm_replay.specs.Output.{client_of}
use Rattle.dm_texts.specs.Lines.{bad_line}
use Rattle.dm_exit.specs.declared.exit.Exit.{Exit}
use Rattle.dm_exit.specs.declared.exit.Exit.TheVariants as exit
use Rattle.dm_pair.specs.declared.events.PairEvent.{PairEvent}
use Rattle.dm_pair.specs.declared.events.PairEvent.TheVariants as event
use Rattle.dm_pair.specs.Events.{pair_event_of}
use Rattle.dm_pair.specs.Pairing.{Pairing, Step, step_of}

-- how far a text has come: its first line, the start section of the client, the job of the server, or the events
pub data TextStage : Type 0 where
  first : TextStage
  starting : Section → TextStage
  jobbing : Setup → Reading → TextStage
  happening : List (List ℕ) → Pairing → TextStage
  -- `end` came
  over : Pairing → TextStage

-- both ends before the first event
abbrev pub pairing_of : Setup → Job → Pairing
pairing_of told job = record {
  client = client_of told;
  server = first_service job;
  ups = [];
  downs = [];
  deliveries = 0;
}

-- ---- one line

-- the stage behind a line, and what is written for it
pub record TextTurn : Type 0 where
  pub stage : TextStage
  pub written : List ℕ

abbrev pub silently : TextStage → TextTurn
silently s = record { stage = s; written = [] }

-- `dm-pair 1`; the start section begins as that of a trace of version 1 behind its first line
abbrev pub opening_line : List ℕ → Result TextTurn LineReason
opening_line line =
    if bytes_eq line (codes "dm-pair 1") then Ok (silently (starting (opening (head.Device 1)))) else Err reason.Word

-- behind `begin` comes the job
abbrev pub stage_after : Section → Option Setup → TextStage
stage_after s None = starting s
stage_after s (Some told) = jobbing told reading.First

abbrev pub start_turn : Result Section LineReason → Result TextTurn LineReason
start_turn (Ok s) = Ok (silently (stage_after s (told_in s)))
start_turn (Err why) = Err why

-- behind the job's `end` come the events
abbrev pub stage_behind : Setup → Reading → Option Job → TextStage
stage_behind told r None = jobbing told r
stage_behind told r (Some job) = happening (servers_of told.accounts) (pairing_of told job)

abbrev pub job_turn : Setup → Result Reading LineReason → Result TextTurn LineReason
job_turn told (Ok r) = Ok (silently (stage_behind told r (job_in r)))
job_turn told (Err why) = Err why

abbrev pub with_line : List (List ℕ) → Step → TextTurn
with_line ids s = record { stage = happening ids s.behind; written = s.words ++ line_feed }

abbrev pub said_turn : List (List ℕ) → Pairing → PairEvent → TextTurn
said_turn ids p event.End = silently (over p)
said_turn ids p (event.Open account kind session) = with_line ids (step_of p (event.Open account kind session))
said_turn ids p (event.Up number) = with_line ids (step_of p (event.Up number))
said_turn ids p (event.Down number) = with_line ids (step_of p (event.Down number))
said_turn ids p event.Loss = with_line ids (step_of p event.Loss)
said_turn ids p (event.Act ok) = with_line ids (step_of p (event.Act ok))
said_turn ids p (event.Run count) = with_line ids (step_of p (event.Run count))

abbrev pub event_turn : List (List ℕ) → Pairing → Result PairEvent LineReason → Result TextTurn LineReason
event_turn ids p (Ok said) = Ok (said_turn ids p said)
event_turn ids p (Err why) = Err why

unfoldable pub text_turn : TextStage → List ℕ → Result TextTurn LineReason
text_turn first line = opening_line line
text_turn (starting s) line = start_turn (section_after s line)
text_turn (jobbing told r) line = job_turn told (job_after r line)
text_turn (happening ids p) line = event_turn ids p (pair_event_of ids (length p.ups) (length p.downs) line)
text_turn (over p) line = Err reason.Extra

-- ---- the whole

-- what is written, and whether a line was refused
pub record Written : Type 0 where
  pub text : List ℕ
  pub bad : Bool

abbrev pub refuses : ℕ × LineReason → Written
refuses refused = record { text = bad_line refused.0 refused.1; bad = true }

-- the tree, the report and the last line
abbrev pub whole_ending : Pairing → List ℕ
whole_ending p = tree_text 1 p.client.engine.tree ++ report_text p.server ++ codes "done" ++ line_feed

-- behind `end` nothing stands
abbrev pub ends_at : ℕ → Pairing → List (List ℕ) → Written
ends_at n p ([] ∷ []) = record { text = whole_ending p; bad = false }
ends_at n p other = refuses (n, reason.Extra)

abbrev pub behind_text : List ℕ → Written → Written
behind_text text w = record { text = text ++ w.text; bad = w.bad }

-- the text ends with this stage, or goes on
abbrev pub goes_on : ℕ → TextStage → List (List ℕ) → Written → Written
goes_on n (over p) behind rest = ends_at n p behind
goes_on n first behind rest = rest
goes_on n (starting s) behind rest = rest
goes_on n (jobbing told r) behind rest = rest
goes_on n (happening ids p) behind rest = rest

abbrev pub behind_turn : ℕ → Result TextTurn LineReason → List (List ℕ) → (TextStage → Written) → Written
behind_turn n (Err why) behind rest = refuses (n, why)
behind_turn n (Ok t) behind rest = behind_text t.written (goes_on (n + 1) t.stage behind (rest t.stage))

-- what is written from line n on, where the lines before it have come so far
abbrev pub written_from : ℕ → TextStage → List (List ℕ) → Written
written_from n s [] = refuses (n, reason.Cut)
written_from n s (tail ∷ []) = refuses (unended n tail)
written_from n s (line ∷ next ∷ others) =
    if is_long line then refuses (n, reason.Long)
    else behind_turn n (text_turn s line) (next ∷ others) (λ t. written_from (n + 1) t (next ∷ others))

-- what is written for a text, whose lines are each ended by a line feed and numbered from 1
unfoldable pub written : List ℕ → Written
written text = written_from 1 first (segments text)

-- more bytes than are looked at
abbrev pub is_too_long : List ℕ → Bool
is_too_long bytes = nat_lt run_limit (length bytes)

-- the text of `pair`: nothing where its input is too long
unfoldable pub pair_text : List ℕ → List ℕ
pair_text bytes = if is_too_long bytes then [] else (written bytes).text

-- its answer, where nothing fails
unfoldable pub pair_exit : List ℕ → Exit
pair_exit bytes =
    if is_too_long bytes then exit.TooLong else if (written bytes).bad then exit.BadInput else exit.Done
