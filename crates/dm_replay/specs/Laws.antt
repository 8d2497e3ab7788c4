-- What a whole trace is, on the list of its lines, and the laws that such traces are answered whole and that a run ends
-- by Done over no others.
use Rattle.std.specs.Prelude.{◌≡◌, ◌≤◌, ℕ, List, [], ◌∷◌, ◌++◌, length, codes, Option, Some, None, Result, Ok, Err, ⊤}
use Rattle.dm_base.specs.Lines.{IsFeedless, line_limit, run_limit}
use Rattle.dm_base.specs.declared.lines.LineReason.{LineReason}
use Rattle.dm_machine.specs.Machine.{Machine}
use Rattle.dm_machine.specs.Events.{Event as Happening}
use Rattle.dm_machine.specs.History.{answers, fresh, reached}
use Rattle.dm_start.specs.declared.telling.Phase.TheVariants as phase
use Rattle.dm_start.specs.Start.{Setup, telling, section_of_lines}
use Rattle.dm_exit.specs.declared.exit.Exit.TheVariants as exit
use Rattle.dm_replay.specs.declared.events.Event.{Event}
use Rattle.dm_replay.specs.Events.{event_of, happening_of}
use Rattle.dm_replay.specs.Trace.{servers_of}
use Rattle.dm_replay.specs.Output.{answers_text, tree_and_done, client_of, replay_text, replay_exit}

-- a line without its line feed
abbrev pub IsLine : List ℕ → Type 0
IsLine line = IsFeedless line × (length line ≤ line_limit)

abbrev pub AreLines : List (List ℕ) → Type 0
AreLines [] = ⊤
AreLines (line ∷ lines) = IsLine line × AreLines lines

-- lines, each with its line feed
abbrev pub text_of : List (List ℕ) → List ℕ
text_of [] = []
text_of (line ∷ lines) = line ++ 10 ∷ text_of lines

-- what happens by a line that says this
abbrev pub happening_said : Result Event LineReason → Option Happening
happening_said (Ok said) = happening_of said
happening_said (Err why) = None

-- lines that say these events, one each
abbrev pub AreEvents : ℕ → List (List ℕ) → List (List ℕ) → List Happening → Type 0
AreEvents version ids [] events = events ≡ []
AreEvents version ids (line ∷ lines) events =
    (e : Happening) × (rest : List Happening) × (happening_said (event_of version ids line) ≡ Some e)
    × (events ≡ e ∷ rest)
    × AreEvents version ids lines rest

-- the lines of a whole trace, with what its start section tells and the events that it holds
pub record IsWholeTrace (lines : List (List ℕ)) (told : Setup) (events : List Happening) : Type 0 where
  pub start : List (List ℕ)
  pub happenings : List (List ℕ)
  pub in_order : lines ≡ start ++ (happenings ++ codes "end" ∷ [])
  pub are_lines : AreLines lines
  pub begins : section_of_lines start ≡ Ok (telling phase.Begun told)
  pub tells : AreEvents told.version (servers_of told.accounts) happenings events

-- the machine's answers to all events, then its tree, then `done`
abbrev pub whole_text : ℕ → Machine → List Happening → List ℕ
whole_text version c events =
    answers_text (answers c events) ++ tree_and_done version (reached c (fresh c events)).engine.tree

-- each whole trace is answered whole
abbrev pub WholeTracesAreAnswered : Type 0
WholeTracesAreAnswered =
    (lines : List (List ℕ)) (told : Setup) (events : List Happening) → IsWholeTrace lines told events
    → length (text_of lines) ≤ run_limit
    → (replay_text (text_of lines) ≡ whole_text told.version (client_of told) events)
    × (replay_exit (text_of lines) ≡ exit.Done)

-- the bytes are the text of a whole trace
pub record IsTrace (bytes : List ℕ) : Type 0 where
  pub lines : List (List ℕ)
  pub told : Setup
  pub events : List Happening
  pub whole : IsWholeTrace lines told events
  pub text : bytes ≡ text_of lines
  pub few : length bytes ≤ run_limit

-- a run over other bytes doesn't end by Done
abbrev pub OnlyTracesAreDone : Type 0
OnlyTracesAreDone = (bytes : List ℕ) → replay_exit bytes ≡ exit.Done → IsTrace bytes
