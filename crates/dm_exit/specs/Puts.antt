-- What was put of a text, by the answer of a run.
use Rattle.std.specs.Prelude.{◌≡◌, ◌⊎◌, ℕ, take, List, Option}
use Rattle.std.specs.Io.KnownBytes.{Appends}
use Rattle.dm_exit.specs.declared.exit.Exit.{Exit}
use Rattle.dm_exit.specs.declared.exit.Exit.TheVariants as exit

-- a prefix of the text was put
abbrev pub PutsPrefix : Option (List ℕ) → Option (List ℕ) → List ℕ → Type 0
PutsPrefix old new text = (n : ℕ) × Appends old new (take n text)

-- a text was put in part, for this answer
abbrev pub PutsPart : Option (List ℕ) → Option (List ℕ) → List ℕ → Exit → Type 0
PutsPart old new text exit.WriteFault = PutsPrefix old new text
PutsPart old new text exit.NoMemory = PutsPrefix old new text
PutsPart old new text other = ⊥

-- a text and then its answer: no answer but this one, a write fault and want of memory
abbrev pub PutsEnd : List ℕ → Exit → Option (List ℕ) → Option (List ℕ) → Exit → Type 0
PutsEnd text good old new e = (Appends old new text × (e ≡ good)) ⊎ PutsPart old new text e

-- the whole text was put and this is the answer, or a part of it for another answer
abbrev pub Ends : List ℕ → Exit → Option (List ℕ) → Option (List ℕ) → Exit → Type 0
Ends text good old new exit.Done = Appends old new text × (good ≡ exit.Done)
Ends text good old new exit.BadInput = Appends old new text × (good ≡ exit.BadInput)
Ends text good old new exit.TooLong = Appends old new text × (good ≡ exit.TooLong)
Ends text good old new exit.ReadFault = PutsPrefix old new text
Ends text good old new exit.WriteFault = PutsPrefix old new text
Ends text good old new exit.NoMemory = PutsPrefix old new text
Ends text good old new other = ⊥
