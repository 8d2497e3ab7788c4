-- The whole run, and its text by the history.
use Rattle.std.proofs.Common.{None, Some, Ok, Err, ◌≡◌, ℕ, List, [], ◌++◌, refl, sym, ap, subst, ◌∙◌}
use Rattle.std.specs.Option.{option_map}
use Rattle.std.specs.declared.option.Option.{Option}
use Rattle.std.specs.declared.result.Result.{Result}
use Rattle.dm_base.specs.Outside.{OfKnown}
use Rattle.dm_base.specs.Lines.{LinesState}
use Rattle.dm_machine.specs.Machine.{Machine}
use Rattle.dm_machine.specs.History.{fresh, reached, answers_from}
use Rattle.dm_machine.specs.Laws.{IsUnused}
use Rattle.dm_machine.proofs.History.{state_is_enough}
use Rattle.dm_start.specs.declared.heads.Head.TheVariants.{First}
use Rattle.dm_start.specs.Start.{Setup, opening, told_of}
use Rattle.dm_exit.specs.declared.exit.Exit.{Exit}
use Rattle.dm_exit.specs.declared.exit.Exit.TheVariants as exit
use Rattle.dm_exit.specs.Puts.{Ends}
use Rattle.dm_replay.specs.declared.reading.Halt.{Halt}
use Rattle.dm_replay.specs.declared.reading.Halt.TheVariants as halt
use Rattle.dm_replay.specs.declared.reading.TraceStart.{TraceStart}
use Rattle.dm_replay.specs.Input.{Input, input_of}
use Rattle.dm_replay.specs.Trace.{bad, too_long, Trace, Begun, began, unbegun, trace_of}
use Rattle.dm_replay.specs.Output.{answers_text, ending_text, ending_exit, trace_text, events_text, client_of}
use Rattle.dm_texts.specs.Lines.{bad_line}
use Rattle.dm_replay.specs.Output.{begun_text, begun_exit, replay_text, replay_exit, Replays}
use Rattle.dm_replay.specs.From.{OfInput, input_to_come, begun_at, OfStop, StartsAs, EndsTrace, EndsEvents, PutsHalt}
use Rattle.dm_exit.proofs.Parts.{ends_put, prefix_none, kept_appends}

-- ---- the text by the history is that by the state

text_by_state : (v : ℕ) (s : Machine) (t : Trace) → IsUnused s → events_text v s t ≡ trace_text v s t
text_by_state v s t u =
    let same = state_is_enough s t.events u in
    ap (λ l. answers_text l ++ ending_text v (reached s (fresh s t.events)).engine.tree t.ending) same.0
    ∙ ap (λ (x : Machine). answers_text (answers_from s t.events) ++ ending_text v x.engine.tree t.ending) same.1

-- ---- the whole run

replays : (bytes : List ℕ) (old new : Option (List ℕ)) (e : Exit)
    → Ends (replay_text bytes) (replay_exit bytes) old new e → Replays bytes old new e
replays bytes old new exit.Done h = h
replays bytes old new exit.BadInput h = h
replays bytes old new exit.TooLong h = h
replays bytes old new exit.ReadFault h = h
replays bytes old new exit.WriteFault h = h
replays bytes old new exit.NoMemory h = h
replays bytes old new other h = h

begun_replays : (bytes : List ℕ) (b : Begun) (old new : Option (List ℕ)) (e : Exit)
    → begun_at 1 (opening First) (input_of 67108864 bytes) ≡ b
    → Ends (begun_text b) (begun_exit b) old new e → Replays bytes old new e
unfolding replay_text replay_exit
begun_replays bytes b old new e is h =
    replays bytes old new e (subst (λ x. Ends (begun_text x) (begun_exit x) old new e) (sym is) h)

events_replay : (bytes : List ℕ) (n : ℕ) (told : Setup) (i : Input) (old new : Option (List ℕ)) (e : Exit)
    → begun_at 1 (opening First) (input_of 67108864 bytes) ≡ began n told i
    → EndsTrace told.version (client_of told) (trace_of n told i) old new e
    → Replays bytes old new e
events_replay bytes n told i old new e is h =
    begun_replays bytes (began n told i) old new e is
    (subst (λ l. Ends l (ending_exit (trace_of n told i).ending) old new e)
    (sym (text_by_state told.version (client_of told) (trace_of n told i) (refl, refl))) h)

abbrev pub fresh_lines : LinesState
fresh_lines = record { line = []; pending = []; past = []; taken = 0 }

whole_input : (left : Option (List ℕ)) → input_to_come fresh_lines left ≡ option_map (input_of 67108864) left
whole_input None = refl
whole_input (Some bytes) = refl

starts_whole : (lines : LinesState) (left : Option (List ℕ)) (b : Option Input) (r : Result TraceStart Halt)
    → lines ≡ fresh_lines
    → StartsAs (input_to_come lines left) b 1 (opening First) r
    → StartsAs (option_map (input_of 67108864) left) b 1 (opening First) r
starts_whole lines left b r is h =
    subst (λ a. StartsAs a b 1 (opening First) r) (ap (λ l. input_to_come l left) is ∙ whole_input left) h

known_events : (left : Option (List ℕ)) (b : Option Input) (s : TraceStart) (old new : Option (List ℕ)) (e : Exit)
    → StartsAs (option_map (input_of 67108864) left) b 1 (opening First) (Ok s) → EndsEvents s b old new e
    → OfKnown left (λ bytes. Replays bytes old new e)
known_events None b s old new e is h = tt
known_events (Some bytes) None s old new e is h = absurd is
known_events (Some bytes) (Some i) s old new e is h = events_replay bytes s.number (told_of s.start) i old new e is h

pub all_events_replay : (lines : LinesState) (left : Option (List ℕ)) (b : Option Input) (s : TraceStart)
    (old new : Option (List ℕ)) (e : Exit) → lines ≡ fresh_lines
    → StartsAs (input_to_come lines left) b 1 (opening First) (Ok s) → EndsEvents s b old new e
    → OfKnown left (λ bytes. Replays bytes old new e)
all_events_replay lines left b s old new e fresh is h =
    known_events left b s old new e (starts_whole lines left b (Ok s) fresh is) h

halt_replays : (bytes : List ℕ) (h : Halt) (old new : Option (List ℕ)) (e : Exit)
    → OfStop h (λ stop. begun_at 1 (opening First) (input_of 67108864 bytes) ≡ unbegun stop) → PutsHalt h old new e
    → Replays bytes old new e
halt_replays bytes (halt.Bad n why) old new e is p =
    begun_replays bytes (unbegun (bad n why)) old new e is
    (ends_put (bad_line n why) exit.BadInput old new e (λ a. (a, refl)) p)
halt_replays bytes halt.TooLong old new e is p =
    begun_replays bytes (unbegun too_long) old new e is
    (subst (λ x. Ends [] exit.TooLong old new x) (sym p.1) (kept_appends old new p.0, refl))
halt_replays bytes halt.Read old new e is p =
    subst (λ x. Replays bytes old new x) (sym p.1) (prefix_none old new (replay_text bytes) p.0)
halt_replays bytes halt.Memory old new e is p =
    subst (λ x. Replays bytes old new x) (sym p.1) (prefix_none old new (replay_text bytes) p.0)

known_halts : (left : Option (List ℕ)) (b : Option Input) (h : Halt) (old new : Option (List ℕ)) (e : Exit)
    → StartsAs (option_map (input_of 67108864) left) b 1 (opening First) (Err h) → PutsHalt h old new e
    → OfKnown left (λ bytes. Replays bytes old new e)
known_halts None b h old new e is p = tt
known_halts (Some bytes) b h old new e is p = halt_replays bytes h old new e is p

pub all_halts_replay : (lines : LinesState) (left : Option (List ℕ)) (h : Halt) (old new : Option (List ℕ)) (e : Exit)
    → lines ≡ fresh_lines
    → OfInput (input_to_come lines left) (λ i. OfStop h (λ stop. begun_at 1 (opening First) i ≡ unbegun stop))
    → PutsHalt h old new e
    → OfKnown left (λ bytes. Replays bytes old new e)
all_halts_replay lines left h old new e fresh is p =
    known_halts left None h old new e (starts_whole lines left None (Err h) fresh is) p
