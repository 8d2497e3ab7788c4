-- Where the source failed, each line that was taken whole was answered.
use Rattle.std.proofs.Common.{None, Some, Ok, ◌≡◌, ◌≢◌, ◌+◌, ℕ, inl, inr, List, [], ◌++◌}
use Rattle.std.proofs.Common.{refl, sym, ap, subst, ◌∙◌, append_assoc, append-nil}
use Rattle.std.proofs.KnownBytes.{Appends-trans}
use Rattle.std.specs.Prelude.{IfSome}
use Rattle.std.specs.declared.option.Option.{Option}
use Rattle.std.specs.Io.KnownBytes.{Appends, Keeps}
use Rattle.dm_base.specs.Outside.{OfKnown}
use Rattle.dm_base.specs.Lines.{LinesState, CountsTaken}
use Rattle.dm_machine.specs.Machine.{Machine}
use Rattle.dm_machine.specs.Events.{Event as Happening}
use Rattle.dm_machine.specs.History.{answer_now, next, answers_from}
use Rattle.dm_machine.proofs.History.{state_is_enough}
use Rattle.dm_start.specs.declared.heads.Head.TheVariants.{First}
use Rattle.dm_start.specs.Start.{Setup, opening, told_of}
use Rattle.dm_exit.specs.declared.exit.Exit.{Exit}
use Rattle.dm_exit.specs.declared.exit.Exit.TheVariants as exit
use Rattle.dm_exit.proofs.Parts.{kept_appends}
use Rattle.dm_replay.specs.declared.events.Event.{Event}
use Rattle.dm_replay.specs.declared.events.Event.TheVariants as event
use Rattle.dm_replay.specs.declared.reading.Halt.{Halt}
use Rattle.dm_replay.specs.declared.reading.Halt.TheVariants as halt
use Rattle.dm_replay.specs.declared.reading.TraceStart.{TraceStart}
use Rattle.dm_replay.specs.Events.{happening_of}
use Rattle.dm_replay.specs.Trace.{Trace, began, no_events, with_event, trace_of, servers_of}
use Rattle.dm_replay.specs.Output.{answer_text, answers_text, begun_answers, answered_text, client_of, PutsTaken}
use Rattle.dm_replay.specs.From.{OverTaken, OfTaken, PutsDue, PutsHalt, PutsBehind, PutsDueAndHalt}
use Rattle.dm_replay.specs.From.{GoesOver, PutsEvents, events_at, ending_at, begun_at}
use Rattle.dm_replay.proofs.Over.{over_then, over_ends, over_counted, of_taken}
use Rattle.dm_replay.proofs.Whole.{fresh_lines}
use Rattle.dm_replay.proofs.Faults.{part_is_no_fault, end_is_no_fault, other_is_no_fault}

-- ---- the answers so far

-- the text of the answers to the events of a trace
abbrev pub said_text : Machine → Trace → List ℕ
said_text c t = answers_text (answers_from c t.events)

-- the answers to the events so far were put, but for those that are due, whatever comes behind what was taken
pub record Answered (a b : LinesState) (left rest old new : Option (List ℕ)) (version : ℕ) (ids : List (List ℕ))
    (n : ℕ) (c : Machine) (m : ℕ) (now : Machine) (due : List ℕ) : Type 0 where
  pub done : List ℕ
  pub put : Appends old new done
  pub over : OverTaken a b left rest (λ i j. said_text c (events_at version ids n i)
      ≡ (done ++ due) ++ said_text now (events_at version ids m j))

-- a front of what is due was put
pub answered_put : (a b : LinesState) (x y : Option (List ℕ)) (old mid new : Option (List ℕ)) (version : ℕ)
    (ids : List (List ℕ)) (n : ℕ) (c : Machine) (m : ℕ) (now : Machine) (due rest : List ℕ)
    → Answered a b x y old mid version ids n c m now due → PutsDue mid new due rest (Ok tt)
    → Answered a b x y old new version ids n c m now rest
answered_put a b x y old mid new version ids n c m now due rest f p = record {
  done = f.done ++ p.0;
  put = Appends-trans old mid new f.done p.0 f.put p.1;
  over = subst (λ l. OverTaken a b x y (λ i j. said_text c (events_at version ids n i)
      ≡ l ++ said_text now (events_at version ids m j)))
      (ap (λ l. f.done ++ l) p.2 ∙ sym (append_assoc f.done p.0 rest)) f.over;
}

answered_more : (a b d : LinesState) (x y z : Option (List ℕ)) (old new : Option (List ℕ)) (version : ℕ)
    (ids : List (List ℕ)) (n : ℕ) (c : Machine) (m : ℕ) (now after : Machine) (due more : List ℕ) (e : Happening)
    → Answered a b x y old new version ids n c m now due
    → OverTaken b d y z (λ i j. events_at version ids m i ≡ with_event e (events_at version ids (m + 1) j))
    → more ≡ due ++ answer_text (answer_now now e) → after ≡ next now e
    → Answered a d x z old new version ids n c (m + 1) after more
answered_more a b d x y z old new version ids n c m now after due more e f is adds acts = record {
  done = f.done;
  put = f.put;
  over = over_then a b d x y z
      (λ i j. said_text c (events_at version ids n i) ≡ (f.done ++ due) ++ said_text now (events_at version ids m j))
      (λ i j. events_at version ids m i ≡ with_event e (events_at version ids (m + 1) j))
      (λ i j. said_text c (events_at version ids n i)
      ≡ (f.done ++ more) ++ said_text after (events_at version ids (m + 1) j))
      (λ i j k p q. p ∙ step (events_at version ids m j) (events_at version ids (m + 1) k) q) f.over is;
}
  where
    step : (here rest : Trace) → here ≡ with_event e rest
        → (f.done ++ due) ++ said_text now here ≡ (f.done ++ more) ++ said_text after rest
    step here rest same =
        let line = answer_text (answer_now now e) in
        ap (λ t. (f.done ++ due) ++ said_text now t) same
        ∙ sym (append_assoc (f.done ++ due) line (said_text (next now e) rest))
        ∙ ap (λ l. l ++ said_text (next now e) rest)
        (append_assoc f.done due line ∙ ap (λ l. f.done ++ l) (sym adds))
        ∙ ap (λ s. (f.done ++ more) ++ said_text s rest) (sym acts)

-- the event that a line says was answered
pub answered_said : (said : Event) (a b d : LinesState) (x y z : Option (List ℕ)) (old new : Option (List ℕ))
    (version : ℕ) (ids : List (List ℕ)) (n : ℕ) (c : Machine) (m : ℕ) (now after : Machine) (due more : List ℕ)
    → Answered a b x y old new version ids n c m now due → GoesOver b d y z version ids m (Ok (Some said))
    → IfSome (happening_of said) (λ e. more ≡ due ++ answer_text (answer_now now e))
    → IfSome (happening_of said) (λ e. after ≡ next now e)
    → Answered a d x z old new version ids n c (m + 1) after more
answered_said (event.Open account kind id) a b d x y z old new version ids n c m now after due more f is adds acts =
    answered_more a b d x y z old new version ids n c m now after due more _ f is adds acts
answered_said (event.Msg nonce bytes) a b d x y z old new version ids n c m now after due more f is adds acts =
    answered_more a b d x y z old new version ids n c m now after due more _ f is adds acts
answered_said event.Loss a b d x y z old new version ids n c m now after due more f is adds acts =
    answered_more a b d x y z old new version ids n c m now after due more _ f is adds acts
answered_said (event.Act ok) a b d x y z old new version ids n c m now after due more f is adds acts =
    answered_more a b d x y z old new version ids n c m now after due more _ f is adds acts
answered_said (event.Clock stamp) a b d x y z old new version ids n c m now after due more f is adds acts =
    answered_more a b d x y z old new version ids n c m now after due more _ f is adds acts
answered_said event.End a b d x y z old new version ids n c m now after due more f is adds acts = absurd is

-- what was taken then holds no other event, and what was due was put
pub answered_all : (a b : LinesState) (x y z : Option (List ℕ)) (old mid new : Option (List ℕ)) (version : ℕ)
    (ids : List (List ℕ)) (n : ℕ) (c : Machine) (m : ℕ) (now : Machine) (due : List ℕ)
    → Answered a b x y old mid version ids n c m now due
    → OfTaken b y z (λ i. (events_at version ids m i).events ≡ []) → Appends mid new due
    → PutsEvents c (events_at version ids n) a x z old new
answered_all a b x y z old mid new version ids n c m now due f none put =
    over_ends a b x y z
    (λ i j. said_text c (events_at version ids n i) ≡ (f.done ++ due) ++ said_text now (events_at version ids m j))
    (λ i. (events_at version ids m i).events ≡ [])
    (λ i. Appends old new (said_text c (events_at version ids n i)))
    (λ i j p q. subst (Appends old new)
    (sym (p ∙ ap (λ es. (f.done ++ due) ++ answers_text (answers_from now es)) q ∙ append-nil (f.done ++ due)))
    (Appends-trans old mid new f.done due f.put put)) f.over none

-- the trace ended at its `end` line, whatever was taken behind it
pub ended_over : (b d : LinesState) (y w z : Option (List ℕ)) (before now : ℕ) (version : ℕ) (ids : List (List ℕ))
    (m : ℕ) → GoesOver b d y w version ids m (Ok None) → CountsTaken w z before now
    → OfTaken b y z (λ i. (events_at version ids m i).events ≡ [])
ended_over b d y w z before now version ids m is taken =
    over_counted b d y w z before now
    (λ i j. events_at version ids m i ≡ no_events (ending_at (m + 1) j))
    (λ i. (events_at version ids m i).events ≡ []) (λ i j p. ap (λ (t : Trace). t.events) p) is taken

-- ---- a run that ends for a fault of the source

pub halt_fault : (h : Halt) (old new : Option (List ℕ)) (e : Exit) → PutsHalt h old new e → e ≡ exit.ReadFault
    → (h ≡ halt.Read) × Keeps old new
halt_fault (halt.Bad n why) old new e p is =
    absurd (end_is_no_fault _ exit.BadInput old new e (λ same. cc) p is)
halt_fault halt.TooLong old new e p is = absurd (other_is_no_fault exit.TooLong e p.1 (λ same. cc) is)
halt_fault halt.Read old new e p is = (refl, p.0)
halt_fault halt.Memory old new e p is = absurd (other_is_no_fault exit.NoMemory e p.1 (λ same. cc) is)

behind_fault : (due : List ℕ) (h : Halt) (old new : Option (List ℕ)) (e : Exit) → h ≢ halt.Read
    → PutsBehind due h old new e → e ≢ exit.ReadFault
behind_fault due h old new e other p is =
    elim p [
      | inl put ↦ other (halt_fault h put.0 new e put.2 is).0
      | inr part ↦ part_is_no_fault old new due e part is
    ]

pub due_fault : (due : List ℕ) (h : Halt) (old new : Option (List ℕ)) (e : Exit) → PutsDueAndHalt due h old new e
    → e ≡ exit.ReadFault → (h ≡ halt.Read) × Keeps old new
due_fault due (halt.Bad n why) old new e p is =
    absurd (behind_fault due (halt.Bad n why) old new e (λ same. cc) p is)
due_fault due halt.TooLong old new e p is = absurd (behind_fault due halt.TooLong old new e (λ same. cc) p is)
due_fault due halt.Read old new e p is = (refl, p.0)
due_fault due halt.Memory old new e p is = absurd (behind_fault due halt.Memory old new e (λ same. cc) p is)

-- where nothing is due and nothing was put, what is due was put
pub due_none : (old new : Option (List ℕ)) (due : List ℕ) → due ≡ [] → Keeps old new → Appends old new due
due_none old new due none kept = subst (Appends old new) (sym none) (kept_appends old new kept)

-- ---- the whole run

pub client_answers : (s : TraceStart) (c : Machine) (ids : List (List ℕ)) (a : LinesState)
    (left rest old new : Option (List ℕ)) → c ≡ client_of (told_of s.start) → ids ≡ servers_of s.start.accounts
    → PutsEvents c (events_at s.start.version ids s.number) a left rest old new
    → PutsEvents (client_of (told_of s.start)) (trace_of s.number (told_of s.start)) a left rest old new
client_answers s c ids a left rest old new is are h =
    let h' = subst (λ m. PutsEvents m (events_at s.start.version ids s.number) a left rest old new) is h in
    subst (λ l. PutsEvents (client_of (told_of s.start)) (events_at s.start.version l s.number) a left rest old new)
    are h'

-- the answers that begin with the first line were put
abbrev pub PutsBegun : LinesState → Option (List ℕ) → Option (List ℕ) → Option (List ℕ) → Option (List ℕ) → Type 0
PutsBegun a left rest old new =
    OfTaken a left rest (λ i. Appends old new (begun_answers (begun_at 1 (opening First) i)))

pub begun_puts : (a b : LinesState) (x y z old new : Option (List ℕ)) (n : ℕ) (told : Setup)
    → OverTaken a b x y (λ i j. begun_at 1 (opening First) i ≡ began n told j)
    → PutsEvents (client_of told) (trace_of n told) b y z old new → PutsBegun a x z old new
begun_puts a b x y z old new n told begins puts =
    over_ends a b x y z (λ i j. begun_at 1 (opening First) i ≡ began n told j)
    (λ i. Appends old new (answers_text (answers_from (client_of told) (trace_of n told i).events)))
    (λ i. Appends old new (begun_answers (begun_at 1 (opening First) i)))
    (λ i j p q. subst (Appends old new)
    (sym (ap begun_answers p
    ∙ ap answers_text (state_is_enough (client_of told) (trace_of n told j).events (refl, refl)).0)) q) begins puts

pub unbegun_puts : (a : LinesState) (x z old new : Option (List ℕ)) → Keeps old new
    → OfTaken a x z (λ i. begun_answers (begun_at 1 (opening First) i) ≡ []) → PutsBegun a x z old new
unbegun_puts a x z old new kept none =
    of_taken a x z (λ i. begun_answers (begun_at 1 (opening First) i) ≡ [])
    (λ i. Appends old new (begun_answers (begun_at 1 (opening First) i)))
    (λ i q. due_none old new (begun_answers (begun_at 1 (opening First) i)) q kept) none

fresh_puts : (left rest old new : Option (List ℕ)) → PutsBegun fresh_lines left rest old new
    → OfKnown left (λ _. PutsTaken left rest old new)
unfolding answered_text
fresh_puts None rest old new h = tt
fresh_puts (Some xs) rest old new h = (h.0, h.1, h.2)

pub puts_taken : (a : LinesState) (left rest old new : Option (List ℕ)) → a ≡ fresh_lines
    → PutsBegun a left rest old new → OfKnown left (λ _. PutsTaken left rest old new)
puts_taken a left rest old new fresh h =
    fresh_puts left rest old new (subst (λ s. PutsBegun s left rest old new) fresh h)
