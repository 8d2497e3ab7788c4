-- Lines that are refused.
use Rattle.std.specs.Prelude.{◌≡◌, Option, Some, None, Result, Err}
use Rattle.dm_base.specs.declared.lines.LineReason.{LineReason}
use Rattle.dm_fields.specs.declared.errors.LineError.{LineError}
use Rattle.dm_fields.specs.declared.errors.LineError.TheVariants as line_error

-- what is said is used; where nothing is, the line is refused
abbrev pub or_refused : {X Y : Type 0} → LineReason → Option X → (X → Result Y LineReason) → Result Y LineReason
or_refused why None next = Err why
or_refused why (Some x) next = next x

-- a refusal is the wanted one; want of memory may come in its place, or in that of a value
abbrev pub Refuses : {Y : Type 0} → Result Y LineReason → LineError → Type 0
Refuses wanted (line_error.Bad why) = wanted ≡ Err why
Refuses wanted line_error.Memory = Unit {0}
