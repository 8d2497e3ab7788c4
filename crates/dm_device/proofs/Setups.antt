-- The whole input of `device`, from its parts.
use Rattle.std.proofs.Common.{◌≡◌, ℕ, List, [], refl, ap, subst, ◌∙◌, Ok, Err, Some, None}
use Rattle.std.specs.Option.{option_map}
use Rattle.std.specs.Prelude.{Option, Result}
use Rattle.dm_base.specs.Outside.{OfKnown}
use Rattle.dm_base.specs.Lines.{LinesState}
use Rattle.dm_start.specs.declared.heads.Head.TheVariants.{First}
use Rattle.dm_start.specs.Start.{opening, told_of}
use Rattle.dm_replay.specs.declared.reading.Halt.{Halt}
use Rattle.dm_replay.specs.declared.reading.Halt.TheVariants as halt
use Rattle.dm_replay.specs.declared.reading.TraceStart.{TraceStart}
use Rattle.dm_replay.specs.Input.{Input, input_of}
use Rattle.dm_replay.specs.Trace.{began, unbegun, stopped}
use Rattle.dm_replay.specs.From.{OfInput, input_to_come, begun_at, OfStop, StartsAs}
use Rattle.dm_device.specs.Inputs.{setup_of, setup_by, setup_behind}
use Rattle.dm_device.specs.Reading.{alone_at, EndsAlone, ReadsSetup}

abbrev pub no_lines : LinesState
no_lines = record { line = []; pending = []; past = []; taken = 0 }

whole_input : (left : Option (List ℕ)) → input_to_come no_lines left ≡ option_map (input_of 67108864) left
whole_input None = refl
whole_input (Some bytes) = refl

starts_whole : (lines : LinesState) (left : Option (List ℕ)) (b : Option Input) (r : Result TraceStart Halt)
    → lines ≡ no_lines → StartsAs (input_to_come lines left) b 1 (opening First) r
    → StartsAs (option_map (input_of 67108864) left) b 1 (opening First) r
starts_whole lines left b r is h =
    subst (λ a. StartsAs a b 1 (opening First) r) (ap (λ l. input_to_come l left) is ∙ whole_input left) h

-- what the input tells, by what stands behind `begin`
told_by : (bytes : List ℕ) (s : TraceStart) (j : Input)
    → begun_at 1 (opening First) (input_of 67108864 bytes) ≡ began s.number (told_of s.start) j
    → setup_of bytes ≡ setup_by (told_of s.start) (alone_at s.number j)
told_by bytes s j is = ap setup_behind is

-- ---- it is whole

known_whole : (left : Option (List ℕ)) (b : Option Input) (s : TraceStart) (u : Unit {0})
    → StartsAs (option_map (input_of 67108864) left) b 1 (opening First) (Ok s) → EndsAlone b s.number (Ok u)
    → OfKnown left (λ bytes. ReadsSetup bytes (Ok s.start))
known_whole None b s u starts ends = tt
known_whole (Some bytes) None s u starts ends = absurd starts
known_whole (Some bytes) (Some j) s u starts ends =
    told_by bytes s j starts ∙ ap (setup_by (told_of s.start)) ends

pub setup_is_whole : (lines : LinesState) (left : Option (List ℕ)) (b : Option Input) (s : TraceStart) (u : Unit {0})
    → lines ≡ no_lines → StartsAs (input_to_come lines left) b 1 (opening First) (Ok s) → EndsAlone b s.number (Ok u)
    → OfKnown left (λ bytes. ReadsSetup bytes (Ok s.start))
setup_is_whole lines left b s u fresh starts ends =
    known_whole left b s u (starts_whole lines left b (Ok s) fresh starts) ends

-- ---- it stops behind `begin`

stops_behind : (bytes : List ℕ) (s : TraceStart) (j : Input) (h : Halt)
    → begun_at 1 (opening First) (input_of 67108864 bytes) ≡ began s.number (told_of s.start) j
    → OfStop h (λ stop. alone_at s.number j ≡ stopped stop) → ReadsSetup bytes (Err h)
stops_behind bytes s j (halt.Bad n why) is ends = told_by bytes s j is ∙ ap (setup_by (told_of s.start)) ends
stops_behind bytes s j halt.TooLong is ends = told_by bytes s j is ∙ ap (setup_by (told_of s.start)) ends
stops_behind bytes s j halt.Read is ends = tt
stops_behind bytes s j halt.Memory is ends = tt

known_stop : (left : Option (List ℕ)) (b : Option Input) (s : TraceStart) (h : Halt)
    → StartsAs (option_map (input_of 67108864) left) b 1 (opening First) (Ok s) → EndsAlone b s.number (Err h)
    → OfKnown left (λ bytes. ReadsSetup bytes (Err h))
known_stop None b s h starts ends = tt
known_stop (Some bytes) None s h starts ends = absurd starts
known_stop (Some bytes) (Some j) s h starts ends = stops_behind bytes s j h starts ends

pub setup_stops : (lines : LinesState) (left : Option (List ℕ)) (b : Option Input) (s : TraceStart) (h : Halt)
    → lines ≡ no_lines → StartsAs (input_to_come lines left) b 1 (opening First) (Ok s) → EndsAlone b s.number (Err h)
    → OfKnown left (λ bytes. ReadsSetup bytes (Err h))
setup_stops lines left b s h fresh starts ends =
    known_stop left b s h (starts_whole lines left b (Ok s) fresh starts) ends

-- ---- it stops in the start section

stops_before : (bytes : List ℕ) (h : Halt)
    → OfStop h (λ stop. begun_at 1 (opening First) (input_of 67108864 bytes) ≡ unbegun stop) → ReadsSetup bytes (Err h)
stops_before bytes (halt.Bad n why) is = ap setup_behind is
stops_before bytes halt.TooLong is = ap setup_behind is
stops_before bytes halt.Read is = tt
stops_before bytes halt.Memory is = tt

known_early : (left : Option (List ℕ)) (h : Halt)
    → StartsAs (option_map (input_of 67108864) left) None 1 (opening First) (Err h)
    → OfKnown left (λ bytes. ReadsSetup bytes (Err h))
known_early None h starts = tt
known_early (Some bytes) h starts = stops_before bytes h starts

pub start_stops : (lines : LinesState) (left : Option (List ℕ)) (h : Halt) → lines ≡ no_lines
    → OfInput (input_to_come lines left) (λ i. OfStop h (λ stop. begun_at 1 (opening First) i ≡ unbegun stop))
    → OfKnown left (λ bytes. ReadsSetup bytes (Err h))
start_stops lines left h fresh starts = known_early left h (starts_whole lines left None (Err h) fresh starts)
