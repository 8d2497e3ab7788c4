-- How the commands answer what was told of a text.
use Rattle.std.specs.Prelude.{◌≡◌, ◌≤◌, ℕ, List, length, Option, Result, Ok, Err, ⊤}
use Rattle.std.specs.Io.KnownBytes.{Consumes, Keeps}
use Rattle.dm_texts.specs.Lines.{bad_line}
use Rattle.dm_exit.specs.declared.exit.Exit.{Exit}
use Rattle.dm_exit.specs.declared.exit.Exit.TheVariants as exit
use Rattle.dm_exit.specs.Puts.{PutsEnd}
use Rattle.dm_ddf.specs.declared.errors.DdfError.{DdfError}
use Rattle.dm_ddf.specs.declared.errors.DdfError.TheVariants as ddf_error
use Rattle.dm_ddf.specs.Texts.{Refused, answer_for, exit_for}

-- the text, or the line that is refused; want of memory puts nothing
abbrev pub AnsweredAs : Result (List ℕ) DdfError → Option (List ℕ) → Option (List ℕ) → Exit → Type 0
AnsweredAs (Ok text) old new e = PutsEnd text exit.Done old new e
AnsweredAs (Err (ddf_error.Bad n why)) old new e = PutsEnd (bad_line n why) exit.BadInput old new e
AnsweredAs (Err ddf_error.Memory) old new e = Keeps old new × (e ≡ exit.NoMemory)

-- at most as many bytes as a run may look at, and one more
abbrev pub TakesOneMore : Option (List ℕ) → Option (List ℕ) → Type 0
TakesOneMore old new = (bytes : List ℕ) × Consumes old new bytes × (length bytes ≤ 67108865)

-- what is written is the answer to a whole text; or its first line that is refused is told
abbrev pub TellsText : Result (List ℕ) Refused → Result (List ℕ) DdfError → Type 0
TellsText wanted (Ok out) = (answer_for wanted ≡ out) × (exit_for wanted ≡ exit.Done)
TellsText wanted (Err (ddf_error.Bad n why)) = wanted ≡ Err (n, why)
TellsText wanted (Err ddf_error.Memory) = ⊤
