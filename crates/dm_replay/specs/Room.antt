-- The client that a start section tells, and what the messages that a replay sends have to do with the room.
use Rattle.std.specs.Prelude.{◌≡◌, ◌≤◌, ⊤, ℕ, List, [], ◌∷◌, length, Some, None, IsSomeAnd, Ok}
use Rattle.dm_base.specs.Limits.{least_room}
use Rattle.syncml_types.specs.Canonical.{canonical}
use Rattle.syncml_types.specs.Message.{Parts}
use Rattle.dm_machine.specs.declared.kinds.End.TheVariants.{Finished, Aborted, Denied}
use Rattle.dm_machine.specs.Machine.{Machine, Session}
use Rattle.dm_machine.specs.Events.{Event as Happening, Answer, clocked, sent, kept, again, stale, stranger, no_session}
use Rattle.dm_machine.specs.Events.{refused, exhausted, ended, acted, not_now}
use Rattle.dm_machine.specs.History.{answer_now, next}
use Rattle.dm_machine.specs.Laws.{IsShort}
use Rattle.dm_machine.specs.Ready.{IsReadyMachine}
use Rattle.dm_start.specs.declared.telling.Phase.TheVariants as phase
use Rattle.dm_start.specs.Start.{Setup, telling, section_of_lines}
use Rattle.dm_replay.specs.Input.{Input}
use Rattle.dm_replay.specs.Output.{client_of}
use Rattle.dm_replay.specs.Trace.{began, begun_of, trace_of}

-- whatever a whole start section tells is a client that has nothing to send but what can be sent, and sent nothing
abbrev pub StartsAreReady : Type 0
StartsAreReady =
    (lines : List (List ℕ)) (told : Setup) → section_of_lines lines ≡ Ok (telling phase.Begun told)
    → IsReadyMachine (client_of told) × IsShort (client_of told)

-- the message is no longer than the room that the server of the open session told last
abbrev pub KeepsToRoom : Machine → Parts → Type 0
KeepsToRoom c m = IsSomeAnd c.session (λ (s : Session). length (canonical m) ≤ s.progress.standing.room)

-- the message of an answer, where the machine behind it is this; a farewell keeps to any room
abbrev pub AnswersInRoom : Machine → Answer → Type 0
AnswersInRoom c (sent m) = KeepsToRoom c m
AnswersInRoom c (kept m) = KeepsToRoom c m
AnswersInRoom c (again m) = KeepsToRoom c m
AnswersInRoom c (ended Denied (Some m)) = length (canonical m) ≤ least_room
AnswersInRoom c (ended Denied None) = ⊤
AnswersInRoom c (ended Finished farewell) = ⊤
AnswersInRoom c (ended Aborted farewell) = ⊤
AnswersInRoom c clocked = ⊤
AnswersInRoom c (stale last) = ⊤
AnswersInRoom c stranger = ⊤
AnswersInRoom c no_session = ⊤
AnswersInRoom c (refused refusal) = ⊤
AnswersInRoom c (exhausted last) = ⊤
AnswersInRoom c acted = ⊤
AnswersInRoom c not_now = ⊤

-- the answers to these events one after the other
abbrev pub AllInRoom : Machine → List Happening → Type 0
AllInRoom c [] = ⊤
AllInRoom c (e ∷ es) = AnswersInRoom (next c e) (answer_now c e) × AllInRoom (next c e) es

-- so are those to the events of any trace, also of one that is refused at a later line
abbrev pub ReplaysKeepToTheRoom : Type 0
ReplaysKeepToTheRoom =
    (bytes : List ℕ) (n : ℕ) (told : Setup) (input : Input) → begun_of bytes ≡ began n told input
    → AllInRoom (client_of told) (trace_of n told input).events
