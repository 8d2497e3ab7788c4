-- The rest of a text, from a line on.
use Rattle.std.specs.Prelude.{◌≡◌, ℕ, List, ⊤}
use Rattle.dm_job.specs.Texts.{segments}
use Rattle.dm_fields.specs.declared.errors.LineError.{LineError}
use Rattle.dm_fields.specs.declared.errors.LineError.TheVariants as line_error
use Rattle.dm_pair.specs.declared.lines.TextHalt.{TextHalt}
use Rattle.dm_pair.specs.declared.lines.TextHalt.TheVariants as halt
use Rattle.dm_pair.specs.Texts.{TextStage, Written, written_from, refuses}

-- what is written for the rest of a text, line n being the next
abbrev pub rest_written : ℕ → TextStage → List ℕ → Written
rest_written n s text = written_from n s (segments text)

-- a halt at a line that is refused is what is written for the rest; want of memory says nothing
abbrev pub HaltsAs : Written → TextHalt → Type 0
HaltsAs w (halt.Bad n why) = w ≡ refuses (n, why)
HaltsAs w halt.Memory = ⊤

-- at a line that isn't taken
abbrev pub text_halt_for : ℕ → LineError → TextHalt
text_halt_for n (line_error.Bad why) = halt.Bad n why
text_halt_for n line_error.Memory = halt.Memory
