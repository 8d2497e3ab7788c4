-- A run goes on by an event, and ends.
use Rattle.std.proofs.Common.{None, Some, Ok, Err, ◌≡◌, ◌+◌, ℕ, inl, inr, List, [], ◌++◌, refl, sym, ap, subst}
use Rattle.std.proofs.Common.{◌∙◌}
use Rattle.std.proofs.Common.{append_assoc}
use Rattle.std.proofs.KnownBytes.{Appends-trans}
use Rattle.std.specs.Prelude.{IfSome}
use Rattle.std.specs.declared.option.Option.{Option}
use Rattle.std.specs.Io.KnownBytes.{Appends, Keeps}
use Rattle.dm_machine.specs.Machine.{Machine}
use Rattle.dm_machine.specs.Events.{Event as Happening}
use Rattle.dm_machine.specs.History.{answer_now, next, answers_from, state_from}
use Rattle.dm_tree.specs.Nodes.{Nodes}
use Rattle.dm_exit.specs.declared.exit.Exit.{Exit}
use Rattle.dm_exit.specs.declared.exit.Exit.TheVariants as exit
use Rattle.dm_exit.specs.Causes.{SourceCause}
use Rattle.dm_exit.specs.Puts.{PutsPart, PutsEnd, Ends}
use Rattle.dm_exit.proofs.Parts.{kept_appends, prefix_none, prefix_behind, front_breaks}
use Rattle.dm_exit.proofs.Parts.{ends_part, ends_after, ends_put}
use Rattle.dm_replay.specs.declared.reading.Halt.{Halt}
use Rattle.dm_replay.specs.declared.reading.Halt.TheVariants as halt
use Rattle.dm_replay.specs.declared.events.Event.{Event}
use Rattle.dm_replay.specs.declared.events.Event.TheVariants as event
use Rattle.dm_replay.specs.declared.reading.TraceStart.{TraceStart}
use Rattle.dm_start.specs.Start.{told_of}
use Rattle.dm_replay.specs.Input.{Input}
use Rattle.dm_replay.specs.Events.{happening_of}
use Rattle.dm_replay.specs.Trace.{Ending, whole, stopped, Trace, no_events, with_event, servers_of}
use Rattle.dm_replay.specs.Output.{answer_text, answers_text, ending_text, ending_exit, tree_and_done}
use Rattle.dm_texts.specs.Lines.{bad_line}
use Rattle.dm_replay.specs.Output.{trace_text, client_of}
use Rattle.dm_replay.specs.From.{OfInput, Between, events_at, OfStop, EndsTrace, PutsHalt}
use Rattle.dm_replay.specs.From.{PutsDue, PutsBehind, PutsDueAndHalt, Follows, SoFar, GoesOn, EndsEvents}
use Rattle.dm_replay.specs.From.{HaltCounts}

ends_trace : (v : ℕ) (s : Machine) (t t' : Trace) (old new : Option (List ℕ)) (e : Exit) → t ≡ t'
    → EndsTrace v s t' old new e → EndsTrace v s t old new e
ends_trace v s t t' old new e is h = subst (λ x. EndsTrace v s x old new e) (sym is) h

halted : (v : ℕ) (s : Machine) (t : Trace) (h : Halt) (old new : Option (List ℕ)) (e : Exit)
    → OfStop h (λ stop. t ≡ no_events (stopped stop)) → PutsHalt h old new e
    → EndsTrace v s t old new e
halted v s t (halt.Bad n why) old new e is p =
    ends_trace v s t _ old new e is (ends_put (bad_line n why) exit.BadInput old new e (λ a. (a, refl)) p)
halted v s t halt.TooLong old new e is p =
    ends_trace v s t _ old new e is (subst (λ x. Ends [] exit.TooLong old new x) (sym p.1)
    (kept_appends old new p.0, refl))
halted v s t halt.Read old new e is p =
    subst (λ x. EndsTrace v s t old new x) (sym p.1) (prefix_none old new (trace_text v s t) p.0)
halted v s t halt.Memory old new e is p =
    subst (λ x. EndsTrace v s t old new x) (sym p.1) (prefix_none old new (trace_text v s t) p.0)

-- ---- the events

-- where the input is told, the run from it ends so
abbrev pub EndsFrom : Option Input → ℕ → Machine → (Input → Trace) → Option (List ℕ) → Option (List ℕ) → Exit → Type 0
EndsFrom a v s t old new e = OfInput a (λ i. EndsTrace v s (t i) old new e)

-- the text of a trace that begins with an event
event_text : (v : ℕ) (s : Machine) (ev : Happening) (t : Trace)
    → trace_text v s (with_event ev t) ≡ answer_text (answer_now s ev) ++ trace_text v (next s ev) t
event_text v s ev t =
    append_assoc (answer_text (answer_now s ev)) (answers_text (answers_from (next s ev) t.events))
    (ending_text v (state_from (next s ev) t.events).engine.tree t.ending)

-- a text that is put in part is no fault of the source
pub part_source : (text : List ℕ) (old new : Option (List ℕ)) (before now : ℕ) (e : Exit) → PutsPart old new text e
    → now ≡ before → SourceCause before now e
part_source text old new before now exit.WriteFault h is = is
part_source text old new before now exit.NoMemory h is = is
part_source text old new before now other h is = absurd h

-- ---- behind a start section

keeps_same : (x : Option (List ℕ)) → Keeps x x
keeps_same None = tt
keeps_same (Some bytes) = refl

pub nothing_put : (a : Option Input) (s : TraceStart) (old : Option (List ℕ)) → EndsEvents s a old old exit.NoMemory
nothing_put None s old = tt
nothing_put (Some i) s old = prefix_none old old _ (keeps_same old)

pub client_ends : (a : Option Input) (s : TraceStart) (c : Machine) (ids : List (List ℕ)) (old new : Option (List ℕ))
    (e : Exit)
    → c ≡ client_of (told_of s.start) → ids ≡ servers_of s.start.accounts
    → EndsFrom a s.start.version c (events_at s.start.version ids s.number) old new e
    → EndsEvents s a old new e
client_ends a s c ids old new e is are h =
    let h' = subst (λ x. EndsFrom a s.start.version x (events_at s.start.version ids s.number) old new e) is h in
    subst (λ x. EndsFrom a s.start.version (client_of (told_of s.start))
    (events_at s.start.version x s.number) old new e) are h'

-- ---- a run so far

-- the answers that are due and then the rest of the run end so
abbrev pub EndsDue : Option Input → ℕ → Machine → (Input → Trace) → List ℕ → Option (List ℕ) → Option (List ℕ) → Exit
    → Type 0
EndsDue a v s t due old new e =
    OfInput a (λ i. Ends (due ++ trace_text v s (t i)) (ending_exit (t i).ending) old new e)

follows_ends : (v : ℕ) (s now : Machine) (t rest : Trace) (done due : List ℕ) (old mid new : Option (List ℕ)) (e : Exit)
    → Follows v s t (done ++ due) now rest
    → Appends old mid done → Ends (due ++ trace_text v now rest) (ending_exit rest.ending) mid new e
    → EndsTrace v s t old new e
follows_ends v s now t rest done due old mid new e f put h =
    subst (λ l. Ends l (ending_exit t.ending) old new e)
    (sym (f.text ∙ append_assoc done due (trace_text v now rest)))
    (subst (λ x. Ends (done ++ (due ++ trace_text v now rest)) (ending_exit x) old new e) (sym f.ending)
    (ends_after done (due ++ trace_text v now rest) (ending_exit rest.ending) old mid new e put h))

pub so_far_ends : (a b : Option Input) (old mid new : Option (List ℕ)) (v : ℕ) (ids : List (List ℕ)) (n : ℕ)
    (s : Machine) (m : ℕ) (now : Machine) (due : List ℕ) (e : Exit)
    → SoFar a b old mid v ids n s m now due → EndsDue b v now (events_at v ids m) due mid new e
    → EndsFrom a v s (events_at v ids n) old new e
so_far_ends None b old mid new v ids n s m now due e f h = tt
so_far_ends (Some i) None old mid new v ids n s m now due e f h = absurd f.follows
so_far_ends (Some i) (Some j) old mid new v ids n s m now due e f h =
    follows_ends v s now _ _ f.done due old mid new e f.follows f.put h

-- a front of what is due was put
pub so_far_put : (a b : Option Input) (old mid new : Option (List ℕ)) (v : ℕ) (ids : List (List ℕ)) (n : ℕ)
    (s : Machine) (m : ℕ) (now : Machine) (due rest : List ℕ)
    → SoFar a b old mid v ids n s m now due → PutsDue mid new due rest (Ok tt)
    → SoFar a b old new v ids n s m now rest
so_far_put a b old mid new v ids n s m now due rest f p = record {
  done = f.done ++ p.0;
  put = Appends-trans old mid new _ _ f.put p.1;
  follows = subst (λ l. Between a b (λ i j. Follows v s (events_at v ids n i) l now (events_at v ids m j)))
      (ap (λ l. f.done ++ l) p.2 ∙ sym (append_assoc f.done p.0 rest)) f.follows;
}

-- what is due was put in part
pub due_breaks : (a : Option Input) (v : ℕ) (s : Machine) (t : Input → Trace) (due : List ℕ)
    (old new : Option (List ℕ)) (e : Exit)
    → PutsPart old new due e → EndsDue a v s t due old new e
due_breaks None v s t due old new e h = tt
due_breaks (Some i) v s t due old new e h =
    ends_part (due ++ trace_text v s (t i)) (ending_exit (t i).ending) old new e
    (front_breaks old new due (trace_text v s (t i)) e h)

-- it was put, and then the run ended at its `end` line
pub end_ends : (a b : Option Input) (v : ℕ) (s : Machine) (t : Input → Trace) (ending : Input → Ending) (due : List ℕ)
    (old new : Option (List ℕ)) (e : Exit)
    → Between a b (λ i j. t i ≡ no_events (ending j))
    → OfInput b
    (λ j. Ends (due ++ ending_text v s.engine.tree (ending j)) (ending_exit (ending j)) old new e)
    → EndsDue a v s t due old new e
end_ends None b v s t ending due old new e is h = tt
end_ends (Some i) None v s t ending due old new e is h = absurd is
end_ends (Some i) (Some j) v s t ending due old new e is h =
    subst (λ (x : Trace). Ends (due ++ trace_text v s x) (ending_exit x.ending) old new e) (sym is) h

-- it was put, and then the run halted
behind_ends : (v : ℕ) (s : Machine) (t : Trace) (h : Halt) (due : List ℕ) (old new : Option (List ℕ)) (e : Exit)
    → OfStop h (λ stop. t ≡ no_events (stopped stop)) → PutsBehind due h old new e
    → Ends (due ++ trace_text v s t) (ending_exit t.ending) old new e
behind_ends v s t h due old new e is p =
    elim p [
      | inl put ↦
          ends_after due (trace_text v s t) (ending_exit t.ending) old put.0 new e put.1
          (halted v s t h put.0 new e is put.2)
      | inr part ↦
          ends_part (due ++ trace_text v s t) (ending_exit t.ending) old new e
          (front_breaks old new due (trace_text v s t) e part)
    ]

due_halted : (v : ℕ) (s : Machine) (t : Trace) (h : Halt) (due : List ℕ) (old new : Option (List ℕ)) (e : Exit)
    → OfStop h (λ stop. t ≡ no_events (stopped stop)) → PutsDueAndHalt due h old new e
    → Ends (due ++ trace_text v s t) (ending_exit t.ending) old new e
due_halted v s t (halt.Bad n why) due old new e is p = behind_ends v s t (halt.Bad n why) due old new e is p
due_halted v s t halt.TooLong due old new e is p = behind_ends v s t halt.TooLong due old new e is p
due_halted v s t halt.Read due old new e is p =
    subst (λ x. Ends (due ++ trace_text v s t) (ending_exit t.ending) old new x) (sym p.1)
    (prefix_none old new (due ++ trace_text v s t) p.0)
due_halted v s t halt.Memory due old new e is p = behind_ends v s t halt.Memory due old new e is p

pub halt_ends : (a : Option Input) (v : ℕ) (s : Machine) (t : Input → Trace) (h : Halt) (due : List ℕ)
    (old new : Option (List ℕ)) (e : Exit)
    → OfInput a (λ i. OfStop h (λ stop. t i ≡ no_events (stopped stop))) → PutsDueAndHalt due h old new e
    → EndsDue a v s t due old new e
halt_ends None v s t h due old new e is p = tt
halt_ends (Some i) v s t h due old new e is p = due_halted v s (t i) h due old new e is p

-- want of memory says nothing of a trace
pub memory_stops : (a : Option Input) (t : Input → Trace)
    → OfInput a (λ i. OfStop halt.Memory (λ stop. t i ≡ no_events (stopped stop)))
memory_stops None t = tt
memory_stops (Some i) t = tt

-- such an end is a fault of the source where its count rose, and else none
end_source : (text : List ℕ) (good : Exit) (old new : Option (List ℕ)) (before now : ℕ) (e : Exit)
    → SourceCause before now good → now ≡ before → PutsEnd text good old new e → SourceCause before now e
end_source text good old new before now e cause same h =
    elim h [
      | inl put ↦ subst (SourceCause before now) (sym put.1) cause
      | inr part ↦ part_source text old new before now e part same
    ]

behind_source : (due : List ℕ) (h : Halt) (old new : Option (List ℕ)) (before now : ℕ) (e : Exit) → now ≡ before
    → ((mid : Option (List ℕ)) → PutsHalt h mid new e → SourceCause before now e)
    → PutsBehind due h old new e → SourceCause before now e
behind_source due h old new before now e same rest p =
    elim p [ inl put ↦ rest put.0 put.2 | inr part ↦ part_source due old new before now e part same ]

pub due_source : (due : List ℕ) (h : Halt) (old new : Option (List ℕ)) (before now : ℕ) (e : Exit)
    → HaltCounts {T = Option Event} before now (Err h) → PutsDueAndHalt due h old new e → SourceCause before now e
due_source due (halt.Bad n why) old new before now e count p =
    behind_source due (halt.Bad n why) old new before now e count
    (λ mid q. end_source (bad_line n why) exit.BadInput mid new before now e count count q) p
due_source due halt.TooLong old new before now e count p =
    behind_source due halt.TooLong old new before now e count
    (λ mid q. subst (SourceCause before now) (sym q.1) count) p
due_source due halt.Read old new before now e count p = subst (SourceCause before now) (sym p.1) count
due_source due halt.Memory old new before now e count p =
    behind_source due halt.Memory old new before now e count
    (λ mid q. subst (SourceCause before now) (sym q.1) count) p

-- ---- behind the `end` line

-- what is due and then the text of an ending end so
abbrev pub EndsSo : Option Input → ℕ → Nodes → (Input → Ending) → List ℕ → Option (List ℕ) → Option (List ℕ) → Exit
    → Type 0
EndsSo a v tree ending due old new e =
    OfInput a (λ i. Ends (due ++ ending_text v tree (ending i)) (ending_exit (ending i)) old new e)

pub so_breaks : (a : Option Input) (v : ℕ) (tree : Nodes) (ending : Input → Ending) (due : List ℕ)
    (old new : Option (List ℕ)) (e : Exit) → PutsPart old new due e → EndsSo a v tree ending due old new e
so_breaks None v tree ending due old new e h = tt
so_breaks (Some i) v tree ending due old new e h =
    ends_part (due ++ ending_text v tree (ending i)) (ending_exit (ending i)) old new e
    (front_breaks old new due (ending_text v tree (ending i)) e h)

pub so_whole : (a : Option Input) (v : ℕ) (tree : Nodes) (ending : Input → Ending) (due : List ℕ)
    (old mid new : Option (List ℕ)) (e : Exit) → Appends old mid due → OfInput a (λ i. ending i ≡ whole)
    → PutsEnd (tree_and_done v tree) exit.Done mid new e → EndsSo a v tree ending due old new e
so_whole None v tree ending due old mid new e put is h = tt
so_whole (Some i) v tree ending due old mid new e put is h =
    subst (λ x. Ends (due ++ ending_text v tree x) (ending_exit x) old new e) (sym is)
    (ends_after due (tree_and_done v tree) exit.Done old mid new e put
    (ends_put (tree_and_done v tree) exit.Done mid new e (λ a. (a, refl)) h))

-- the text of a stop
stop_ends : (v : ℕ) (tree : Nodes) (h : Halt) (x : Ending) (old new : Option (List ℕ)) (e : Exit)
    → OfStop h (λ stop. x ≡ stopped stop) → PutsHalt h old new e
    → Ends (ending_text v tree x) (ending_exit x) old new e
stop_ends v tree (halt.Bad n why) x old new e is p =
    subst (λ y. Ends (ending_text v tree y) (ending_exit y) old new e) (sym is)
    (ends_put (bad_line n why) exit.BadInput old new e (λ a. (a, refl)) p)
stop_ends v tree halt.TooLong x old new e is p =
    subst (λ y. Ends (ending_text v tree y) (ending_exit y) old new e) (sym is)
    (subst (λ y. Ends [] exit.TooLong old new y) (sym p.1) (kept_appends old new p.0, refl))
stop_ends v tree halt.Read x old new e is p =
    subst (λ y. Ends (ending_text v tree x) (ending_exit x) old new y) (sym p.1)
    (prefix_none old new (ending_text v tree x) p.0)
stop_ends v tree halt.Memory x old new e is p =
    subst (λ y. Ends (ending_text v tree x) (ending_exit x) old new y) (sym p.1)
    (prefix_none old new (ending_text v tree x) p.0)

pub so_halts : (a : Option Input) (v : ℕ) (tree : Nodes) (ending : Input → Ending) (h : Halt) (due : List ℕ)
    (old mid new : Option (List ℕ)) (e : Exit) → Appends old mid due
    → OfInput a (λ i. OfStop h (λ stop. ending i ≡ stopped stop)) → PutsHalt h mid new e
    → EndsSo a v tree ending due old new e
so_halts None v tree ending h due old mid new e put is p = tt
so_halts (Some i) v tree ending h due old mid new e put is p =
    ends_after due (ending_text v tree (ending i)) (ending_exit (ending i)) old mid new e put
    (stop_ends v tree h (ending i) mid new e is p)

-- ---- the tree text and the last line

pub last_breaks : (old mid new : Option (List ℕ)) (text last : List ℕ) (e : Exit) → Appends old mid text
    → PutsPart mid new last e → PutsEnd (text ++ last) exit.Done old new e
last_breaks old mid new text last exit.WriteFault put h = inr (prefix_behind old mid new text last put h)
last_breaks old mid new text last exit.NoMemory put h = inr (prefix_behind old mid new text last put h)
last_breaks old mid new text last other put h = absurd h

-- ---- an event

follows_event : (v : ℕ) (s now after : Machine) (t here rest : Trace) (done : List ℕ) (ev : Happening)
    → Follows v s t done now here → here ≡ with_event ev rest
    → after ≡ next now ev → Follows v s t (done ++ answer_text (answer_now now ev)) after rest
follows_event v s now after t here rest done ev f is acts = record {
  text =
      f.text ∙ ap (λ x. done ++ trace_text v now x) is ∙ ap (λ l. done ++ l) (event_text v now ev rest)
      ∙ sym (append_assoc done (answer_text (answer_now now ev)) (trace_text v (next now ev) rest))
      ∙ ap (λ x. (done ++ answer_text (answer_now now ev)) ++ trace_text v x rest) (sym acts);
  ending = f.ending ∙ ap (λ (x : Trace). x.ending) is;
}

more_follows : (a b c : Option Input) (v : ℕ) (s now after : Machine) (t here rest : Input → Trace) (done : List ℕ)
    (ev : Happening) → after ≡ next now ev
    → Between a b (λ i j. Follows v s (t i) done now (here j)) → Between b c (λ i j. here i ≡ with_event ev (rest j))
    → Between a c (λ i j. Follows v s (t i) (done ++ answer_text (answer_now now ev)) after (rest j))
more_follows None b c v s now after t here rest done ev acts f is = tt
more_follows (Some i) None c v s now after t here rest done ev acts f is = absurd f
more_follows (Some i) (Some j) None v s now after t here rest done ev acts f is = absurd is
more_follows (Some i) (Some j) (Some k) v s now after t here rest done ev acts f is =
    follows_event v s now after (t i) (here j) (rest k) done ev f is acts

pub so_far_more : (a b c : Option Input) (old mid : Option (List ℕ)) (v : ℕ) (ids : List (List ℕ)) (n : ℕ)
    (s : Machine) (m : ℕ) (now after : Machine) (due more : List ℕ) (ev : Happening)
    → SoFar a b old mid v ids n s m now due → Between b c
    (λ i j. events_at v ids m i ≡ with_event ev (events_at v ids (m + 1) j))
    → more ≡ due ++ answer_text (answer_now now ev) → after ≡ next now ev
    → SoFar a c old mid v ids n s (m + 1) after more
so_far_more a b c old mid v ids n s m now after due more ev f is adds acts = record {
  done = f.done;
  put = f.put;
  follows = subst (λ l. Between a c
      (λ i j. Follows v s (events_at v ids n i) l after (events_at v ids (m + 1) j)))
      (append_assoc f.done due (answer_text (answer_now now ev)) ∙ ap (λ l. f.done ++ l) (sym adds))
      (more_follows a b c v s now after (events_at v ids n) (events_at v ids m)
      (events_at v ids (m + 1)) (f.done ++ due) ev acts f.follows is);
}

-- the event that a line says was answered, and the run goes on
pub said_more : (said : Event) (a b c : Option Input) (old mid : Option (List ℕ)) (v : ℕ) (ids : List (List ℕ))
    (n : ℕ) (s : Machine) (m : ℕ) (now after : Machine) (due more : List ℕ)
    → SoFar a b old mid v ids n s m now due → GoesOn b c v ids m (Ok (Some said))
    → IfSome (happening_of said) (λ e. more ≡ due ++ answer_text (answer_now now e))
    → IfSome (happening_of said) (λ e. after ≡ next now e)
    → SoFar a c old mid v ids n s (m + 1) after more
said_more (event.Open account kind number) a b c old mid v ids n s m now after due more f is adds acts =
    so_far_more a b c old mid v ids n s m now after due more _ f is adds acts
said_more (event.Msg nonce bytes) a b c old mid v ids n s m now after due more f is adds acts =
    so_far_more a b c old mid v ids n s m now after due more _ f is adds acts
said_more event.Loss a b c old mid v ids n s m now after due more f is adds acts =
    so_far_more a b c old mid v ids n s m now after due more _ f is adds acts
said_more (event.Act ok) a b c old mid v ids n s m now after due more f is adds acts =
    so_far_more a b c old mid v ids n s m now after due more _ f is adds acts
said_more (event.Clock stamp) a b c old mid v ids n s m now after due more f is adds acts =
    so_far_more a b c old mid v ids n s m now after due more _ f is adds acts
said_more event.End a b c old mid v ids n s m now after due more f is adds acts = absurd is
