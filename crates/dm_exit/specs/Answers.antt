-- Which answers a command over texts may give, and what the best of them says of its input.
use Rattle.std.specs.Prelude.{◌≡◌, ℕ, List, Option, ⊤}
use Rattle.std.specs.Io.KnownBytes.{IsAtEnd}
use Rattle.dm_base.specs.Outside.{OfKnown}
use Rattle.dm_exit.specs.declared.exit.Exit.{Exit}
use Rattle.dm_exit.specs.declared.exit.Exit.TheVariants as exit

-- the answers of a command that reads a text and writes one
abbrev pub IsOfText : Exit → Type 0
IsOfText exit.Done = ⊤
IsOfText exit.BadInput = ⊤
IsOfText exit.ReadFault = ⊤
IsOfText exit.WriteFault = ⊤
IsOfText exit.NoMemory = ⊤
IsOfText exit.TooLong = ⊤
IsOfText other = ⊥

-- a run over bytes that its source told ends well only where the source is at its end
abbrev pub DoneAtEnd : Option (List ℕ) → Option (List ℕ) → Exit → Type 0
DoneAtEnd old new e = e ≡ exit.Done → OfKnown old (λ _. IsAtEnd new)
