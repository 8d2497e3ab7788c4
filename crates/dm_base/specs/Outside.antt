-- What the calls of a source and a sink take, put and count.
use Rattle.std.specs.Prelude.{◌≡◌, ◌<◌, ◌≤◌, ◌+◌, ◌-◌, ◌^◌, ℕ, min, List, length, take, ⊤, Option, Some, None, Result}
use Rattle.std.specs.Prelude.{Ok, Err}
use Rattle.std.specs.Io.KnownBytes.{Appends, Consumes, IsAtEnd, Keeps}
use Rattle.dm_base.specs.declared.outside.Failed.{Failed}
use Rattle.dm_base.specs.declared.outside.Fault.{Fault}
use Rattle.dm_base.specs.declared.outside.Fault.TheVariants as fault
use Rattle.dm_base.specs.declared.outside.TakeError.{TakeError}
use Rattle.dm_base.specs.declared.outside.TakeError.TheVariants as take_error

-- a count of faults rose, or stands at its last value
abbrev pub Rose : ℕ → ℕ → Type 0
Rose before now = (before ≤ now) × (min (before + 1) (2 ^ 64 - 1) ≤ now)

-- of known bytes this holds
abbrev pub OfKnown : Option (List ℕ) → (List ℕ → Type 0) → Type 0
OfKnown None P = ⊤
OfKnown (Some bytes) P = P bytes

-- a take fails only where the count rose, and else leaves the count
abbrev pub TakeCounts : {T : Type 0} → ℕ → ℕ → Result T Failed → Type 0
TakeCounts before now (Ok x) = now ≡ before
TakeCounts before now (Err e) = Rose before now

-- a put fails only where the count rose; after want of memory, too, the count is as before
abbrev pub PutCounts : {T : Type 0} → ℕ → ℕ → Result T Fault → Type 0
PutCounts before now (Ok x) = now ≡ before
PutCounts before now (Err fault.Failed) = Rose before now
PutCounts before now (Err fault.Memory) = now ≡ before

-- a reader answers Read only where the count rose; every other answer leaves the count
abbrev pub ReadCounts : {T : Type 0} → ℕ → ℕ → Result T TakeError → Type 0
ReadCounts before now (Ok x) = now ≡ before
ReadCounts before now (Err take_error.Read) = Rose before now
ReadCounts before now (Err take_error.TooLong) = now ≡ before
ReadCounts before now (Err take_error.Memory) = now ≡ before

-- a put takes at least one byte of the piece at Ok, and none otherwise
abbrev pub PutsSome : {E : Type 0} → Option (List ℕ) → Option (List ℕ) → Result ℕ E → List ℕ → Type 0
PutsSome old new (Ok n) piece = (0 < n) × (n ≤ length piece) × Appends old new (take n piece)
PutsSome old new (Err e) piece = Keeps old new

-- a take fills the front of the buffer with the bytes that came next; with none at the end alone
abbrev pub TakesSome : {E : Type 0} → Option (List ℕ) → Option (List ℕ) → Result ℕ E → List ℕ → Type 0
TakesSome old new (Ok n) buf = (n ≤ length buf) × Consumes old new (take n buf) × (n ≡ 0 → IsAtEnd new)
TakesSome old new (Err e) buf = Keeps old new

-- all bytes up to the end were taken, at most so many; or one more than so many; or a part of them
abbrev pub TakesAll : Option (List ℕ) → Option (List ℕ) → ℕ → Result (List ℕ) TakeError → Type 0
TakesAll old new limit (Ok bytes) = (length bytes ≤ limit) × Consumes old new bytes × IsAtEnd new
TakesAll old new limit (Err take_error.TooLong) = (bytes : List ℕ) × (length bytes ≡ limit + 1) × Consumes old new bytes
TakesAll old new limit (Err take_error.Read) = (bytes : List ℕ) × (length bytes ≤ limit) × Consumes old new bytes
TakesAll old new limit (Err take_error.Memory) = (bytes : List ℕ) × (length bytes ≤ limit + 1) × Consumes old new bytes

-- all of the bytes were put, or a proper prefix of them
abbrev pub PutsAll : Option (List ℕ) → Option (List ℕ) → Result (Unit {0}) Fault → List ℕ → Type 0
PutsAll old new (Ok u) bytes = Appends old new bytes
PutsAll old new (Err e) bytes = (n : ℕ) × (n < length bytes) × Appends old new (take n bytes)
