-- What one exchange of a client does to its connection.
use Rattle.std.specs.Prelude.{◌≡◌, ◌⊎◌, ℕ, List, [], take, Option, Result, Err}
use Rattle.std.specs.Io.KnownBytes.{Appends}
use Rattle.dm_base.specs.Outside.{Rose}
use Rattle.dm_heads.specs.declared.errors.HttpError.{HttpError}
use Rattle.dm_heads.specs.declared.errors.HttpError.TheVariants as error
use Rattle.dm_heads.specs.declared.heads.HeadKind.TheVariants as kind
use Rattle.dm_heads.specs.Receiving.{ReceivesBody}

-- a beginning of the text was put, or all of it
abbrev pub PutsBeginning : Option (List ℕ) → Option (List ℕ) → List ℕ → Type 0
PutsBeginning old new text = (n : ℕ) × Appends old new (take n text)

-- after a fault and for want of memory a beginning of the request was put; every other answer comes after all of it
unfoldable pub PutsRequest : Option (List ℕ) → Option (List ℕ) → List ℕ → Result (List ℕ) HttpError → Type 0
PutsRequest old new text (Err error.Failed) = PutsBeginning old new text
PutsRequest old new text (Err error.Memory) = PutsBeginning old new text
PutsRequest old new text other = Appends old new text

-- the bytes taken are a reply that gives this answer
unfoldable pub TakesReply : Option (List ℕ) → Option (List ℕ) → Result (List ℕ) HttpError → Type 0
TakesReply old new r = ReceivesBody kind.Reply [] old new r

-- a fault comes only where one of both counts rose; every other answer leaves both
unfoldable pub StreamCounts : {T : Type 0} → ℕ → ℕ → ℕ → ℕ → Result T HttpError → Type 0
StreamCounts takes taken puts put (Err error.Failed) =
    (Rose takes taken × (put ≡ puts)) ⊎ ((taken ≡ takes) × Rose puts put)
StreamCounts takes taken puts put other = (taken ≡ takes) × (put ≡ puts)
