-- The rest of a run, from a state, a line number and the input that is to come.
use Rattle.std.specs.Prelude.{◌≡◌, ◌⊎◌, ◌+◌, ℕ, Bool, false, if◌then◌else◌, List, [], ◌∷◌, ◌++◌, Option, Some, None}
use Rattle.std.specs.Prelude.{Result, Ok, Err, ⊤, IsSomeAnd, option_map}
use Rattle.std.specs.List.{AllByRecursion}
use Rattle.std.specs.Io.KnownBytes.{Appends, Consumes, Keeps}
use Rattle.dm_base.specs.Outside.{OfKnown, Rose}
use Rattle.dm_base.specs.declared.lines.LineReason.TheVariants as reason
use Rattle.dm_base.specs.declared.outside.Fault.{Fault}
use Rattle.dm_base.specs.declared.outside.Fault.TheVariants as fault
use Rattle.dm_base.specs.declared.outside.TakeError.{TakeError}
use Rattle.dm_base.specs.declared.outside.TakeError.TheVariants as take_error
use Rattle.dm_base.specs.Lines.{IsFeedless, LinesState, ahead, room}
use Rattle.dm_tree.specs.Devices.{IsDeviceTree}
use Rattle.dm_tree.specs.Rows.{nodes, IsNoneParked}
use Rattle.dm_machine.specs.Machine.{Machine}
use Rattle.dm_machine.specs.Events.{Event as Happening}
use Rattle.dm_machine.specs.History.{answers_from}
use Rattle.dm_machine.specs.Ready.{IsReadyAccount, IsReadyLimits}
use Rattle.dm_fields.specs.declared.errors.LineError.{LineError}
use Rattle.dm_fields.specs.declared.errors.LineError.TheVariants as line_error
use Rattle.dm_start.specs.declared.telling.Start.{Start}
use Rattle.dm_start.specs.Start.{Section, told_of}
use Rattle.dm_exit.specs.declared.exit.Exit.{Exit}
use Rattle.dm_exit.specs.declared.exit.Exit.TheVariants as exit
use Rattle.dm_exit.specs.Puts.{PutsPart, PutsEnd, Ends}
use Rattle.dm_replay.specs.declared.events.Event.{Event}
use Rattle.dm_replay.specs.declared.reading.Halt.{Halt}
use Rattle.dm_replay.specs.declared.reading.Halt.TheVariants as halt
use Rattle.dm_replay.specs.declared.reading.TraceStart.{TraceStart}
use Rattle.dm_replay.specs.Input.{Input, input_of}
use Rattle.dm_replay.specs.Events.{happening_of}
use Rattle.dm_replay.specs.Trace.{Stop, bad, too_long, Ending, whole, stopped, Trace, Begun, began, unbegun, is_long}
use Rattle.dm_replay.specs.Trace.{tail_stop, start_from, end_from, events_from, no_events, with_event, trace_of}
use Rattle.dm_texts.specs.Lines.{bad_line}
use Rattle.dm_replay.specs.Output.{ending_exit, trace_text, client_of, begun_answers, answers_text}

-- ---- the input to come

-- the input that is to come, where the source tells its bytes
abbrev pub input_to_come : LinesState → Option (List ℕ) → Option Input
input_to_come state left = option_map (input_of (room state)) (ahead state left)

-- of an input that is told this holds
abbrev pub OfInput : Option Input → (Input → Type 0) → Type 0
OfInput None P = ⊤
OfInput (Some i) P = P i

-- this holds of an input that is told and of the one behind it
abbrev pub Between : Option Input → Option Input → (Input → Input → Type 0) → Type 0
Between None b P = ⊤
Between (Some i) None P = ⊥
Between (Some i) (Some j) P = P i j

-- a line in front of an input
abbrev pub with_front : List ℕ → Input → Input
with_front line i = record { lines = line ∷ i.lines; tail = i.tail; more = i.more }

-- the input begins with this line, and loses it
abbrev pub BeginsWithLine : List ℕ → Input → Input → Type 0
BeginsWithLine line i j = (i ≡ with_front line j) × (is_long line ≡ false)

abbrev pub stop_of_front : ℕ → List (List ℕ) → List ℕ → Bool → Option Stop
stop_of_front n [] tail more = Some (tail_stop n tail more)
stop_of_front n (line ∷ lines) tail more = if is_long line then Some (bad n reason.Long) else None

-- why there is no line n
abbrev pub why_no_line : ℕ → Input → Option Stop
why_no_line n i = stop_of_front n i.lines i.tail i.more

-- ---- the bytes that were taken

-- this holds of the inputs that are to come before and behind what was taken, whatever comes behind that
abbrev pub OverTaken : LinesState → LinesState → Option (List ℕ) → Option (List ℕ) → (Input → Input → Type 0) → Type 0
OverTaken a b left rest P =
    OfKnown left (λ _. (taken : List ℕ) × Consumes left rest taken
    × ((more : List ℕ) → Between (input_to_come a (Some (taken ++ more))) (input_to_come b (Some more)) P))

-- this holds of what was taken, as all the input that was to come
abbrev pub OfTaken : LinesState → Option (List ℕ) → Option (List ℕ) → (Input → Type 0) → Type 0
OfTaken a left rest P =
    OfKnown left (λ _. (taken : List ℕ) × Consumes left rest taken × OfInput (input_to_come a (Some taken)) P)

-- a line leads what comes, whatever stands behind what was taken; where the source failed, that holds no whole line
abbrev pub LeadsOver : LinesState → LinesState → Option (List ℕ) → Option (List ℕ) → Result (Unit {0}) Halt → Type 0
LeadsOver a b left rest (Ok u) = OverTaken a b left rest (λ i j. BeginsWithLine b.line i j)
LeadsOver a b left rest (Err h) = h ≡ halt.Read → OfTaken a left rest (λ i. i.lines ≡ [])

-- ---- the rest of each phase

-- the start section from line n on
abbrev pub begun_at : ℕ → Section → Input → Begun
begun_at n s i = start_from n s i.lines i.tail i.more

-- the events from line n on
abbrev pub events_at : ℕ → List (List ℕ) → ℕ → Input → Trace
events_at version ids n i = events_from version ids n i.lines i.tail i.more

abbrev pub ending_at : ℕ → Input → Ending
ending_at n i = end_from n i.lines i.tail i.more

-- ---- why the reading halts

-- for a halt that is one of a trace this holds of its stop
abbrev pub OfStop : Halt → (Stop → Type 0) → Type 0
OfStop (halt.Bad n why) P = P (bad n why)
OfStop halt.TooLong P = P too_long
OfStop halt.Read P = ⊤
OfStop halt.Memory P = ⊤

-- a read that halts for a fault comes only where the source's count rose; every other answer leaves the count
abbrev pub HaltCounts : {T : Type 0} → ℕ → ℕ → Result T Halt → Type 0
HaltCounts before now (Ok x) = now ≡ before
HaltCounts before now (Err (halt.Bad n why)) = now ≡ before
HaltCounts before now (Err halt.TooLong) = now ≡ before
HaltCounts before now (Err halt.Read) = Rose before now
HaltCounts before now (Err halt.Memory) = now ≡ before

-- a run halts for a fault of the source only where no line is pending
abbrev pub HaltsAsking : List ℕ → Halt → Type 0
HaltsAsking pending halt.Read = IsFeedless pending
HaltsAsking pending other = ⊤

abbrev pub halt_after : TakeError → Halt
halt_after take_error.Read = halt.Read
halt_after take_error.TooLong = halt.TooLong
halt_after take_error.Memory = halt.Memory

-- at a line that isn't taken
abbrev pub halt_for : ℕ → LineError → Halt
halt_for n (line_error.Bad why) = halt.Bad n why
halt_for n line_error.Memory = halt.Memory

-- the start section from here, by what was read of it: it is whole and line n comes next, or it stops
abbrev pub StartsAs : Option Input → Option Input → ℕ → Section → Result TraceStart Halt → Type 0
StartsAs a b n s (Ok started) = Between a b (λ i j. begun_at n s i ≡ began started.number (told_of started.start) j)
StartsAs a b n s (Err h) = OfInput a (λ i. OfStop h (λ stop. begun_at n s i ≡ unbegun stop))

-- the same, whatever comes behind what was taken; where the source failed, that holds nothing to be answered
abbrev pub StartsOver : LinesState → LinesState → Option (List ℕ) → Option (List ℕ) → ℕ → Section → Result TraceStart Halt
    → Type 0
StartsOver a b left rest n s (Ok started) =
    OverTaken a b left rest (λ i j. begun_at n s i ≡ began started.number (told_of started.start) j)
StartsOver a b left rest n s (Err h) = h ≡ halt.Read → OfTaken a left rest (λ i. begun_answers (begun_at n s i) ≡ [])

-- what a client needs of the start that it is made of
pub record CanBegin (s : Start) : Type 0 where
  pub accounts : AllByRecursion IsReadyAccount s.accounts
  pub device : IsDeviceTree (nodes s.tree.rows)
  pub parked : IsNoneParked s.tree.rows
  pub limits : IsReadyLimits s.limits

-- the events from here, by what was read of them: one comes next, or the `end` line, or the trace stops
abbrev pub GoesOn : Option Input → Option Input → ℕ → List (List ℕ) → ℕ → Result (Option Event) Halt → Type 0
GoesOn a b version ids n (Ok (Some event)) =
    IsSomeAnd (happening_of event)
    (λ (e : Happening). Between a b (λ i j. events_at version ids n i ≡ with_event e (events_at version ids (n + 1) j)))
GoesOn a b version ids n (Ok None) = Between a b (λ i j. events_at version ids n i ≡ no_events (ending_at (n + 1) j))
GoesOn a b version ids n (Err h) =
    OfInput a (λ i. OfStop h (λ stop. events_at version ids n i ≡ no_events (stopped stop)))

-- the same, whatever comes behind what was taken; where the source failed, that holds no event
abbrev pub GoesOver : LinesState → LinesState → Option (List ℕ) → Option (List ℕ) → ℕ → List (List ℕ) → ℕ
    → Result (Option Event) Halt → Type 0
GoesOver a b left rest version ids n (Ok (Some event)) =
    IsSomeAnd (happening_of event) (λ (e : Happening). OverTaken a b left rest
    (λ i j. events_at version ids n i ≡ with_event e (events_at version ids (n + 1) j)))
GoesOver a b left rest version ids n (Ok None) =
    OverTaken a b left rest (λ i j. events_at version ids n i ≡ no_events (ending_at (n + 1) j))
GoesOver a b left rest version ids n (Err h) =
    h ≡ halt.Read → OfTaken a left rest (λ i. (events_at version ids n i).events ≡ [])

-- the same of what stands behind the `end` line
abbrev pub EndsAs : Option Input → ℕ → Result (Unit {0}) Halt → Type 0
EndsAs a n (Ok u) = OfInput a (λ i. ending_at n i ≡ whole)
EndsAs a n (Err h) = OfInput a (λ i. OfStop h (λ stop. ending_at n i ≡ stopped stop))

-- ---- what is put

-- a front of what is due was put, and the rest is due; or a part of it was put
abbrev pub PutsDue : Option (List ℕ) → Option (List ℕ) → List ℕ → List ℕ → Result (Unit {0}) Exit → Type 0
PutsDue old new due rest (Ok u) = (front : List ℕ) × Appends old new front × (due ≡ front ++ rest)
PutsDue old new due rest (Err e) = PutsPart old new due e

abbrev pub exit_after : Fault → Exit
exit_after fault.Failed = exit.WriteFault
exit_after fault.Memory = exit.NoMemory

-- the rest of a run from a state and a trace
abbrev pub EndsTrace : ℕ → Machine → Trace → Option (List ℕ) → Option (List ℕ) → Exit → Type 0
EndsTrace version c t old new e = Ends (trace_text version c t) (ending_exit t.ending) old new e

-- the rest of a run behind a start section
abbrev pub EndsEvents : TraceStart → Option Input → Option (List ℕ) → Option (List ℕ) → Exit → Type 0
EndsEvents s a old new e =
    OfInput a (λ i. EndsTrace s.start.version (client_of (told_of s.start))
    (trace_of s.number (told_of s.start) i) old new e)

-- the answers to the events of what was taken, and nothing else, were put
abbrev pub PutsEvents : Machine → (Input → Trace) → LinesState → Option (List ℕ) → Option (List ℕ) → Option (List ℕ)
    → Option (List ℕ) → Type 0
PutsEvents c t a left rest old new =
    OfTaken a left rest (λ i. Appends old new (answers_text (answers_from c (t i).events)))

-- a halted run puts its stop; a fault of the source and want of memory put nothing
abbrev pub PutsHalt : Halt → Option (List ℕ) → Option (List ℕ) → Exit → Type 0
PutsHalt (halt.Bad n why) old new e = PutsEnd (bad_line n why) exit.BadInput old new e
PutsHalt halt.TooLong old new e = Keeps old new × (e ≡ exit.TooLong)
PutsHalt halt.Read old new e = Keeps old new × (e ≡ exit.ReadFault)
PutsHalt halt.Memory old new e = Keeps old new × (e ≡ exit.NoMemory)

-- what is due was put and then a halt's stop, or a part of what is due
abbrev pub PutsBehind : List ℕ → Halt → Option (List ℕ) → Option (List ℕ) → Exit → Type 0
PutsBehind due h old new e =
    ((mid : Option (List ℕ)) × Appends old mid due × PutsHalt h mid new e) ⊎ PutsPart old new due e

-- the same, but after a fault of the source nothing is put
abbrev pub PutsDueAndHalt : List ℕ → Halt → Option (List ℕ) → Option (List ℕ) → Exit → Type 0
PutsDueAndHalt due (halt.Bad n why) old new e = PutsBehind due (halt.Bad n why) old new e
PutsDueAndHalt due halt.TooLong old new e = PutsBehind due halt.TooLong old new e
PutsDueAndHalt due halt.Read old new e = Keeps old new × (e ≡ exit.ReadFault)
PutsDueAndHalt due halt.Memory old new e = PutsBehind due halt.Memory old new e

-- ---- a run that goes on

-- with this text put, the text and the ending of the first trace are those of the second
pub record Follows (version : ℕ) (c : Machine) (t : Trace) (done : List ℕ) (now : Machine) (rest : Trace) : Type 0 where
  pub text : trace_text version c t ≡ done ++ trace_text version now rest
  pub ending : t.ending ≡ rest.ending

-- a run over events that began at the one and has come to the other; of its answers so far these are due
pub record SoFar (a b : Option Input) (old new : Option (List ℕ)) (version : ℕ) (ids : List (List ℕ)) (n : ℕ)
    (c : Machine) (m : ℕ) (now : Machine) (due : List ℕ) : Type 0 where
  pub done : List ℕ
  pub put : Appends old new done
  pub follows : Between a b
      (λ i j. Follows version c (events_at version ids n i) (done ++ due) now (events_at version ids m j))
