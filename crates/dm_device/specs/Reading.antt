-- What is read of a trace without events.
use Rattle.std.specs.Prelude.{◌≡◌, ℕ, List, Option, Result, Ok, Err}
use Rattle.dm_start.specs.declared.telling.Start.{Start}
use Rattle.dm_start.specs.Start.{told_of}
use Rattle.dm_replay.specs.declared.reading.Halt.{Halt}
use Rattle.dm_replay.specs.Input.{Input}
use Rattle.dm_replay.specs.Trace.{Ending, whole, stopped}
use Rattle.dm_replay.specs.From.{OfInput, OfStop}
use Rattle.dm_device.specs.Inputs.{end_alone, setup_of}

abbrev pub alone_at : ℕ → Input → Ending
alone_at n i = end_alone n i.lines i.tail i.more

-- what stands behind `begin` is whole, or stops the reading
abbrev pub EndsAlone : Option Input → ℕ → Result (Unit {0}) Halt → Type 0
EndsAlone a n (Ok u) = OfInput a (λ i. alone_at n i ≡ whole)
EndsAlone a n (Err h) = OfInput a (λ i. OfStop h (λ stop. alone_at n i ≡ stopped stop))

-- by the answer: what the input tells, or where it stops
abbrev pub ReadsSetup : List ℕ → Result Start Halt → Type 0
ReadsSetup bytes (Ok start) = setup_of bytes ≡ Ok (told_of start)
ReadsSetup bytes (Err h) = OfStop h (λ stop. setup_of bytes ≡ Err stop)
