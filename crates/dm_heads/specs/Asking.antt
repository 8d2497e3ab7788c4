-- When more bytes are asked for.
use Rattle.std.specs.Prelude.{◌≡◌, ◌<◌, ◌≤◌, ◌⊎◌, ◌++◌, ℕ, List, [], length, Option, Result, Ok, Err}
use Rattle.std.specs.Io.KnownBytes.{Consumes}
use Rattle.dm_heads.specs.declared.errors.HttpError.{HttpError}
use Rattle.dm_heads.specs.declared.errors.HttpError.TheVariants as error
use Rattle.dm_heads.specs.declared.extents.HeadVerdict.{HeadVerdict}
use Rattle.dm_heads.specs.declared.extents.HeadVerdict.TheVariants as verdict
use Rattle.dm_heads.specs.declared.heads.HeadKind.{HeadKind}
use Rattle.dm_heads.specs.declared.receiving.BegunMessage.{BegunMessage}
use Rattle.dm_heads.specs.Extents.{body_limit}
use Rattle.dm_heads.specs.Messages.{head_limit, HasHead, HasNoHead, MayBecomeHead}
use Rattle.dm_heads.specs.Taking.{piece_limit}

-- behind a head, more of a body may come
abbrev pub WantsBody : HeadVerdict → List ℕ → Type 0
WantsBody (verdict.Sized n) rest = length rest < n
WantsBody verdict.Unsized rest = length rest ≤ body_limit
WantsBody other rest = ⊥

-- these bytes settle no answer yet: a head may still come, or more of a body
abbrev pub Wants : HeadKind → List ℕ → Type 0
Wants k bytes = ((length bytes < head_limit) × HasNoHead k bytes × MayBecomeHead k bytes)
    ⊎ ((v : HeadVerdict) × (rest : List ℕ) × HasHead k bytes v rest × WantsBody v rest)

-- all that was taken but a last piece wants more, where any was taken
abbrev pub LastAsk : HeadKind → List ℕ → Type 0
LastAsk k taken = (before : List ℕ) × (last : List ℕ) × (taken ≡ before ++ last) × (length last ≤ piece_limit)
    × ((taken ≡ []) ⊎ Wants k before)

abbrev pub Asked : HeadKind → Option (List ℕ) → Option (List ℕ) → Type 0
Asked k old new = (taken : List ℕ) × Consumes old new taken × LastAsk k taken

-- where the source failed, all that was taken wants more: it isn't asked behind a settled answer
abbrev pub AskedUnsettled : HeadKind → Option (List ℕ) → Option (List ℕ) → Type 0
AskedUnsettled k old new = (taken : List ℕ) × Consumes old new taken × Wants k taken

abbrev pub ErrorAsked : HeadKind → Option (List ℕ) → Option (List ℕ) → HttpError → Type 0
ErrorAsked k old new error.Failed = AskedUnsettled k old new
ErrorAsked k old new other = Asked k old new

-- by the answer: how the source was asked for one message
abbrev pub Asks : {T : Type 0} → HeadKind → Option (List ℕ) → Option (List ℕ) → Result T HttpError → Type 0
Asks k old new (Ok x) = Asked k old new
Asks k old new (Err e) = ErrorAsked k old new e

-- for a head
abbrev pub AsksHead : HeadKind → Option (List ℕ) → Option (List ℕ) → Result BegunMessage HttpError → Type 0
AsksHead k old new (Ok b) = LastAsk k b.taken
AsksHead k old new (Err e) = ErrorAsked k old new e

abbrev pub AskedBehind : HeadKind → List ℕ → Option (List ℕ) → Option (List ℕ) → Type 0
AskedBehind k head old new = (p : List ℕ) × (q : List ℕ) × Consumes old new (p ++ q) × (length q ≤ piece_limit)
    × ((p ++ q ≡ []) ⊎ Wants k (head ++ p))

-- behind bytes that begin with a head
abbrev pub AsksBehind : {T : Type 0} → HeadKind → List ℕ → Option (List ℕ) → Option (List ℕ) → Result T HttpError → Type 0
AsksBehind k head old new (Err error.Failed) = (p : List ℕ) × Consumes old new p × Wants k (head ++ p)
AsksBehind k head old new other = AskedBehind k head old new
