-- What is taken of a source behind what was taken before, and when it is asked for more.
use Rattle.std.specs.Prelude.{◌≡◌, ◌<◌, ◌≤◌, ◌++◌, ◌⊎◌, ℕ, List, [], length, Bool, true, false, Option, Result, Ok, Err}
use Rattle.std.specs.Io.KnownBytes.{Consumes, IsAtEnd, Keeps}
use Rattle.dm_base.specs.declared.outside.Fault.{Fault}
use Rattle.dm_base.specs.declared.outside.Fault.TheVariants as fault

-- how many bytes a source is asked for at most
abbrev pub piece_limit : ℕ
piece_limit = 4096

-- a piece was taken behind the others; with none of it the source is at its end; after an error nothing is kept of it
abbrev pub TakesPiece : Option (List ℕ) → Option (List ℕ) → List ℕ → List ℕ → ℕ → Result ℕ Fault → Type 0
TakesPiece old new before now most (Ok n) = (piece : List ℕ) × Consumes old new piece × (now ≡ before ++ piece)
    × (length piece ≡ n) × (n ≤ most) × (n ≤ piece_limit) × (n ≡ 0 → IsAtEnd new)
TakesPiece old new before now most (Err fault.Failed) = Keeps old new × (now ≡ before)
TakesPiece old new before now most (Err fault.Memory) = (piece : List ℕ) × Consumes old new piece × (now ≡ before)
    × (length piece ≤ piece_limit)

-- all up to this length, or up to the end
abbrev pub TakesUpTo : Option (List ℕ) → Option (List ℕ) → List ℕ → List ℕ → ℕ → Result Bool Fault → Type 0
TakesUpTo old new before now end (Ok true) = (piece : List ℕ) × Consumes old new piece × (now ≡ before ++ piece)
    × (end ≤ length now)
TakesUpTo old new before now end (Ok false) = (piece : List ℕ) × Consumes old new piece × (now ≡ before ++ piece)
    × (length now < end) × IsAtEnd new
TakesUpTo old new before now end (Err e) = (piece : List ℕ) × Consumes old new piece

-- before the last piece there were fewer bytes than this, if any was taken
abbrev pub AskedUpTo : Option (List ℕ) → Option (List ℕ) → List ℕ → ℕ → Type 0
AskedUpTo old new start end = (p : List ℕ) × (q : List ℕ) × Consumes old new (p ++ q) × (length q ≤ piece_limit)
    × ((p ++ q ≡ []) ⊎ (length (start ++ p) < end))

-- where the source failed, there were fewer bytes than this
abbrev pub AsksUpTo : Option (List ℕ) → Option (List ℕ) → List ℕ → ℕ → Result Bool Fault → Type 0
AsksUpTo old new start end (Err fault.Failed) = (p : List ℕ) × Consumes old new p × (length (start ++ p) < end)
AsksUpTo old new start end other = AskedUpTo old new start end
