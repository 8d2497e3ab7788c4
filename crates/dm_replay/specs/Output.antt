-- What `replay` writes and answers.
use Rattle.std.specs.Prelude.{◌≡◌, ℕ, List, [], ◌∷◌, ◌++◌, codes, Option, Some, None}
use Rattle.std.specs.Fmt.{decimal}
use Rattle.std.specs.Io.KnownBytes.{Appends, Consumes}
use Rattle.dm_base.specs.Fields.{hex_text}
use Rattle.dm_base.specs.Lines.{line_feed}
use Rattle.dm_base.specs.Outside.{OfKnown}
use Rattle.syncml_types.specs.Canonical.{canonical}
use Rattle.syncml_types.specs.Message.{Parts}
use Rattle.dm_tree.specs.Nodes.{Nodes}
use Rattle.dm_atomic.specs.Updates.{begun as begun_state}
use Rattle.dm_machine.specs.declared.kinds.End.{End}
use Rattle.dm_machine.specs.declared.kinds.End.TheVariants.{Finished, Aborted, Denied}
use Rattle.dm_machine.specs.Machine.{Machine}
use Rattle.dm_machine.specs.Events.{Answer, clocked, sent, kept, again, stale, stranger, no_session, refused, exhausted}
use Rattle.dm_machine.specs.Events.{ended, acted, not_now}
use Rattle.dm_machine.specs.History.{answers, fresh, reached, answers_from, state_from}
use Rattle.dm_start.specs.Start.{Setup}
use Rattle.dm_start.specs.TreeText.{tree_text}
use Rattle.dm_exit.specs.declared.exit.Exit.{Exit}
use Rattle.dm_exit.specs.declared.exit.Exit.TheVariants as exit
use Rattle.dm_exit.specs.Puts.{PutsPrefix}
use Rattle.dm_texts.specs.Lines.{refused_line, bad_line}
use Rattle.dm_replay.specs.Trace.{Stop, bad, too_long, Ending, whole, stopped, Trace, Begun, began, unbegun, begun_of}
use Rattle.dm_replay.specs.Trace.{trace_of}

-- ---- the answers, one line each

abbrev pub message_line : List ℕ → Parts → List ℕ
message_line word m = word ++ hex_text (canonical m)

-- with its farewell
abbrev pub denied_line : Option Parts → List ℕ
denied_line None = codes "denied"
denied_line (Some m) = message_line (codes "denied ") m

abbrev pub ended_line : End → Option Parts → List ℕ
ended_line Finished farewell = codes "ended finished"
ended_line Aborted farewell = codes "ended aborted"
ended_line Denied farewell = denied_line farewell

unfoldable pub answer_line : Answer → List ℕ
answer_line clocked = codes "clocked"
answer_line (sent m) = message_line (codes "sent ") m
answer_line (kept m) = message_line (codes "kept ") m
answer_line (again m) = message_line (codes "again ") m
answer_line (stale last) = codes "stale " ++ decimal last
answer_line stranger = codes "stranger"
answer_line no_session = codes "nosession"
answer_line (refused refusal) = refused_line refusal
answer_line (exhausted last) = codes "exhausted " ++ decimal last
answer_line (ended end farewell) = ended_line end farewell
answer_line acted = codes "acted"
answer_line not_now = codes "notnow"

abbrev pub answer_text : Answer → List ℕ
answer_text a = answer_line a ++ line_feed

abbrev pub answers_text : List Answer → List ℕ
answers_text [] = []
answers_text (a ∷ as') = answer_text a ++ answers_text as'

-- ---- the end

abbrev pub stop_text : Stop → List ℕ
stop_text (bad n why) = bad_line n why
stop_text too_long = []

-- the tree of a whole trace, and the last line
abbrev pub tree_and_done : ℕ → Nodes → List ℕ
tree_and_done version tree = tree_text version tree ++ codes "done" ++ line_feed

abbrev pub ending_text : ℕ → Nodes → Ending → List ℕ
ending_text version tree whole = tree_and_done version tree
ending_text version tree (stopped stop) = stop_text stop

abbrev pub stop_exit : Stop → Exit
stop_exit (bad n why) = exit.BadInput
stop_exit too_long = exit.TooLong

abbrev pub ending_exit : Ending → Exit
ending_exit whole = exit.Done
ending_exit (stopped stop) = stop_exit stop

-- ---- the whole run

-- the client before its first session
abbrev pub client_of : Setup → Machine
client_of told = record {
  limits = told.limits;
  clock = told.clock;
  engine = begun_state told.nodes;
  queue = [];
  accounts = told.accounts;
  session = None;
  begun = 0;
  results = [];
  resp_uri = None;
  farewell = None;
}

-- the answers of the machine to the events by their whole history, and its tree in the end
abbrev pub events_text : ℕ → Machine → Trace → List ℕ
events_text version c t =
    answers_text (answers c t.events) ++ ending_text version (reached c (fresh c t.events)).engine.tree t.ending

abbrev pub begun_text : Begun → List ℕ
begun_text (unbegun stop) = stop_text stop
begun_text (began n told input) = events_text told.version (client_of told) (trace_of n told input)

abbrev pub begun_exit : Begun → Exit
begun_exit (unbegun stop) = stop_exit stop
begun_exit (began n told input) = ending_exit (trace_of n told input).ending

-- the text of replay
unfoldable pub replay_text : List ℕ → List ℕ
replay_text bytes = begun_text (begun_of bytes)

-- its answer, where nothing fails
unfoldable pub replay_exit : List ℕ → Exit
replay_exit bytes = begun_exit (begun_of bytes)

-- the whole text was put, and the answer is the one that these bytes have
abbrev pub PutsWhole : List ℕ → Option (List ℕ) → Option (List ℕ) → Exit → Type 0
PutsWhole bytes old new e = Appends old new (replay_text bytes) × (replay_exit bytes ≡ e)

-- what was put, by the answer of a run over these bytes
abbrev pub Replays : List ℕ → Option (List ℕ) → Option (List ℕ) → Exit → Type 0
Replays bytes old new exit.Done = PutsWhole bytes old new exit.Done
Replays bytes old new exit.BadInput = PutsWhole bytes old new exit.BadInput
Replays bytes old new exit.TooLong = PutsWhole bytes old new exit.TooLong
Replays bytes old new exit.ReadFault = PutsPrefix old new (replay_text bytes)
Replays bytes old new exit.WriteFault = PutsPrefix old new (replay_text bytes)
Replays bytes old new exit.NoMemory = PutsPrefix old new (replay_text bytes)
Replays bytes old new other = ⊥

-- ---- what was answered where the source failed

-- the answers to the events behind a start section that is whole
abbrev pub begun_answers : Begun → List ℕ
begun_answers (unbegun stop) = []
begun_answers (began n told input) = answers_text (answers (client_of told) (trace_of n told input).events)

-- the answers to the events of these bytes as a trace, and none where their start section isn't whole
unfoldable pub answered_text : List ℕ → List ℕ
answered_text bytes = begun_answers (begun_of bytes)

-- the events of the bytes that were taken were answered, and nothing else was put
abbrev pub PutsTaken : Option (List ℕ) → Option (List ℕ) → Option (List ℕ) → Option (List ℕ) → Type 0
PutsTaken left rest old new =
    (taken : List ℕ) × Consumes left rest taken × Appends old new (answered_text taken)

-- where the source of a trace failed, each line that was taken whole was answered, and nothing else was put
abbrev pub AnswersTaken : Option (List ℕ) → Option (List ℕ) → Option (List ℕ) → Option (List ℕ) → Exit → Type 0
AnswersTaken left rest old new e = e ≡ exit.ReadFault → OfKnown left (λ _. PutsTaken left rest old new)

-- ---- the same by the state of the machine alone, which is how a run goes on

abbrev pub trace_text : ℕ → Machine → Trace → List ℕ
trace_text version c t =
    answers_text (answers_from c t.events) ++ ending_text version (state_from c t.events).engine.tree t.ending
