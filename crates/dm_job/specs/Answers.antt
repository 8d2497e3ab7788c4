-- What a line is answered: a refusal, and want of memory, leave all.
use Rattle.std.specs.Prelude.{◌≡◌, Result, Ok, Err}
use Rattle.dm_base.specs.declared.bytes.Memory.{Memory}
use Rattle.dm_base.specs.declared.lines.LineReason.{LineReason}
use Rattle.dm_fields.specs.declared.errors.LineError.{LineError}
use Rattle.dm_fields.specs.Refusing.{Refuses}

-- the state is the wanted one
abbrev pub MovesOn : {S : Type 0} {T : Type 0} → Result S LineReason → S → S → Result T LineError → Type 0
MovesOn wanted old new (Ok x) = wanted ≡ Ok new
MovesOn wanted old new (Err e) = Refuses wanted e × (new ≡ old)

-- the same, where nothing is refused
abbrev pub AlwaysMovesOn : {S : Type 0} {T : Type 0} → S → S → S → Result T Memory → Type 0
AlwaysMovesOn wanted old new (Ok x) = new ≡ wanted
AlwaysMovesOn wanted old new (Err e) = new ≡ old

-- what is said is the wanted thing
abbrev pub Says : {S : Type 0} → Result S LineReason → Result S LineError → Type 0
Says wanted (Ok x) = wanted ≡ Ok x
Says wanted (Err e) = Refuses wanted e
