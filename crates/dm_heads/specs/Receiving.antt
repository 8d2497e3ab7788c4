-- What is taken of a source for one message, by the answer.
use Rattle.std.specs.Prelude.{◌≡◌, ◌≤◌, ◌⊎◌, ◌++◌, ℕ, List, length, drop, Option, Result, Ok, Err}
use Rattle.std.specs.Io.KnownBytes.{Consumes, IsAtEnd}
use Rattle.dm_base.specs.Outside.{Rose}
use Rattle.dm_heads.specs.declared.errors.HttpError.{HttpError}
use Rattle.dm_heads.specs.declared.errors.HttpError.TheVariants as error
use Rattle.dm_heads.specs.declared.heads.HeadKind.{HeadKind}
use Rattle.dm_heads.specs.declared.receiving.BegunMessage.{BegunMessage}
use Rattle.dm_heads.specs.Messages.{head_limit, HasHead, NeverHasHead, Headless, Brings, Settles}

-- a fault only where the count rose; every other answer leaves the count
abbrev pub HttpCounts : {T : Type 0} → ℕ → ℕ → Result T HttpError → Type 0
HttpCounts before now (Err error.Failed) = Rose before now
HttpCounts before now other = now ≡ before

-- some bytes were taken, and of the answer nothing is said
abbrev pub TakesPart : Option (List ℕ) → Option (List ℕ) → Type 0
TakesPart old new = (piece : List ℕ) × Consumes old new piece

-- bytes were taken behind those before them, and with these they settle the answer, or the stream ended and this is it
abbrev pub TakesWhole : HeadKind → List ℕ → Option (List ℕ) → Option (List ℕ) → Result (List ℕ) HttpError → Type 0
TakesWhole k before old new r = (piece : List ℕ) × Consumes old new piece
    × (Settles k (before ++ piece) r ⊎ (IsAtEnd new × Brings k (before ++ piece) r))

unfoldable pub ReceivesBody : HeadKind → List ℕ → Option (List ℕ) → Option (List ℕ) → Result (List ℕ) HttpError → Type 0
ReceivesBody k before old new (Err error.Failed) = TakesPart old new
ReceivesBody k before old new (Err error.Memory) = TakesPart old new
ReceivesBody k before old new r = TakesWhole k before old new r

-- a head was taken whole; or the bytes never have one; or the stream ended inside it
abbrev pub TakesHead : HeadKind → Option (List ℕ) → Option (List ℕ) → Result BegunMessage HttpError → Type 0
TakesHead k old new (Ok b) = Consumes old new b.taken × (b.len ≤ length b.taken) × (b.len ≤ head_limit)
    × HasHead k b.taken b.verdict (drop b.len b.taken)
TakesHead k old new (Err error.BadHead) = (taken : List ℕ) × Consumes old new taken × NeverHasHead k taken
TakesHead k old new (Err error.Cut) =
    (taken : List ℕ) × Consumes old new taken × IsAtEnd new × Headless k taken error.Cut
TakesHead k old new (Err error.Failed) = TakesPart old new
TakesHead k old new (Err error.Memory) = TakesPart old new
TakesHead k old new (Err (error.NotOk code)) = ⊥
TakesHead k old new (Err error.TooLong) = ⊥
