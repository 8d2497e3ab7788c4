-- What takes tokens, each told with its place.
use Rattle.std.specs.Prelude.{◌≡◌, ◌≤◌, ◌+◌, ℕ, zero, suc, false, true, List, [], ◌∷◌, ◌++◌, length, take, drop, Option}
use Rattle.std.specs.Prelude.{Some, None, Result, Ok, Err, ◌⊎◌, ⊤}
use Rattle.wbxml_tokens.specs.declared.reason.Reason.{Reason}
use Rattle.wbxml_tokens.specs.declared.reason.Refusal.{Refusal}
use Rattle.wbxml_tokens.specs.declared.reason.FeedError.{FeedError}
use Rattle.wbxml_tokens.specs.declared.reason.FeedError.TheVariants as errors
use Rattle.wbxml_tokens.specs.declared.reason.Stop.{Stop}
use Rattle.wbxml_tokens.specs.declared.reason.Stop.TheVariants as stops
use Rattle.wbxml_tokens.specs.declared.token.Token.{Token}
use Rattle.wbxml_tokens.specs.declared.token.Placed.{Placed}
use Rattle.wbxml_tokens.specs.Fronts.{Front, more, wrong}
use Rattle.wbxml_tokens.specs.Reading.{Reader, Reading, begun_by, found, is_whole, reads, size_of, reader_behind}
use Rattle.wbxml_tokens.specs.Reading.{tokens_of}

-- an error says why a token is refused, or that it is another error, which leaves the writer so
abbrev pub TellsReason : {W : Type 0} → (W → W → Type 0) → W → W → Option Reason → Option Reason → Type 0
TellsReason left old new (Some reason) refusal = refusal ≡ Some reason
TellsReason left old new None refusal = left old new

-- a token is taken exactly where it isn't refused
abbrev pub TakesToken : {W E : Type 0} → (E → Option Reason) → (W → W → Type 0) → Result Unit E → W → W → Option Reason
    → Type 0
TakesToken reason left (Ok u) old new refusal = refusal ≡ None
TakesToken reason left (Err e) old new refusal = TellsReason left old new (reason e) refusal

-- what a taker is, as the three functions of its trait
pub record Taking (W : Type 0) : Type 0 where
  pub placed : W → ℕ → W
  pub after : W → Token → W
  pub refusal : W → Token → Option Reason

abbrev pub taking : {W : Type 0} → (W → ℕ → W) → (W → Token → W) → (W → Token → Option Reason) → Taking W
taking placed after refusal = record { placed = placed; after = after; refusal = refusal }

abbrev pub taken_one : {W : Type 0} → Taking W → Option Reason → W → Placed → Result W Refusal
taken_one k None w p = Ok (k.after (k.placed w p.at) p.token)
taken_one k (Some reason) w p = Err (record { at = p.at; reason = reason })

infixl 10 ◌>>=◌
abbrev pub ◌>>=◌ : {A B E : Type 0} → Result A E → (A → Result B E) → Result B E
(Ok x) >>= f = f x
(Err e) >>= f = Err e

-- a taker after these tokens, or its first refusal, at the token's place
abbrev pub taken_all : {W : Type 0} → Taking W → W → List Placed → Result W Refusal
taken_all k w [] = Ok w
taken_all k w (p ∷ ps) = taken_one k (k.refusal (k.placed w p.at) p.token) w p >>= (λ v. taken_all k v ps)

-- the first refusal is the taker's, or else the reader's
abbrev pub IsFirst : {W : Type 0} → Result W Refusal → W → Option Refusal → Refusal → Type 0
IsFirst handed new refused f = (handed ≡ Err f) ⊎ ((handed ≡ Ok new) × (refused ≡ Some f))

-- a writer that took a token, or that memory lacked for one
abbrev pub IsLeft : {W : Type 0} → Taking W → (W → W → Type 0) → W → W → Type 0
IsLeft k left old new = (new ≡ old) ⊎ ((at : ℕ) × left (k.placed old at) new)

-- want of memory came after some of the tokens
abbrev pub StopsAmong : {W : Type 0} → Taking W → (W → W → Type 0) → W → W → List Placed → Type 0
StopsAmong {W} k left old new tokens = (n : ℕ) × (w : W) × (taken_all k old (take n tokens) ≡ Ok w) × IsLeft k left w new

-- why feeding stopped: a refusal, or want of memory
abbrev pub Stops : {W : Type 0} → Taking W → (W → W → Type 0) → FeedError → W → W → Reading → Type 0
Stops k left (errors.Refused f) old new x = IsFirst (taken_all k old x.tokens) new x.refused f
Stops k left errors.Memory old new x = StopsAmong k left old new x.tokens

-- what feeding gives: the tokens of the reading were handed on
abbrev pub Feeds : {W A : Type 0} → Taking W → (W → W → Type 0) → Result A FeedError → W → W → Reading → Type 0
Feeds k left (Ok a) old new x = (taken_all k old x.tokens ≡ Ok new) × (x.refused ≡ None)
Feeds k left (Err e) old new x = Stops k left e old new x

-- ---- one part

-- a refusal of the reader's own
abbrev pub RefusesPart : ℕ → Front → Refusal → Type 0
RefusesPart place (wrong at reason) f = f ≡ record { at = place + at; reason = reason }
RefusesPart place other f = ⊥

abbrev pub IsTaken : Front → Type 0
IsTaken (wrong at reason) = ⊥
IsTaken other = ⊤

-- what reading one part gives: its size, or 0 where it isn't whole; of one that the reader refuses no want of memory is
-- told
abbrev pub GivesPart : {W : Type 0} → Taking W → (W → W → Type 0) → Result ℕ FeedError → Reader → Reader → W → W → Front
    → Type 0
GivesPart k left (Ok size) old new w v part =
    (size ≡ size_of part) × (new ≡ reader_behind old part) × (taken_all k w (tokens_of old.place part) ≡ Ok v) × IsTaken part
GivesPart k left (Err (errors.Refused f)) old new w v part =
    (RefusesPart old.place part f × (v ≡ w)) ⊎ (taken_all k w (tokens_of old.place part) ≡ Err f)
GivesPart k left (Err errors.Memory) old new w v part =
    StopsAmong k left w v (tokens_of old.place part) × IsTaken part

-- why a taker stops that tells this of a token
abbrev pub stop_of : Option Reason → Stop
stop_of (Some reason) = stops.Refused reason
stop_of None = stops.Memory

-- the same as an error, at a place
abbrev pub stop_at : ℕ → Stop → FeedError
stop_at place (stops.Refused reason) = errors.Refused (record { at = place; reason = reason })
stop_at place stops.Memory = errors.Memory

abbrev pub stopped_at : ℕ → Result ℕ Stop → Result ℕ FeedError
stopped_at place (Ok n) = Ok n
stopped_at place (Err stop) = Err (stop_at place stop)

-- what reading a part without tokens gives; of one that the reader refuses no want of memory is told
abbrev pub GivesNoToken : Result ℕ FeedError → Reader → Reader → Front → Type 0
GivesNoToken (Ok size) old new part =
    (size ≡ size_of part) × (new ≡ reader_behind old part) × (tokens_of old.place part ≡ []) × IsTaken part
GivesNoToken (Err (errors.Refused f)) old new part = RefusesPart old.place part f
GivesNoToken (Err errors.Memory) old new part = IsTaken part

-- ---- the parts at the front of bytes

-- a reading with these tokens before its own
abbrev pub told_before : List Placed → Reading → Reading
told_before tokens x = record x { tokens = tokens ++ x.tokens }

-- so many bytes were a part, and reading goes on behind them; none were, and they all are held
abbrev pub PassesPart : ℕ → List Placed → Reader → Reader → List ℕ → Type 0
PassesPart zero tokens old new bytes =
    (tokens ≡ []) × (new ≡ old) × (found old bytes ≡ more) × (is_whole old.extent ≡ false)
    × (reads (begun_by old) bytes ≡ begun_by (record old { held = bytes }))
PassesPart (suc n) tokens old new bytes =
    reads (begun_by old) bytes ≡ told_before tokens (reads (begun_by new) (drop (suc n) bytes))

-- what reading the first part of bytes gives, where nothing is held
abbrev pub GivesFirst : {W : Type 0} → Taking W → (W → W → Type 0) → Result ℕ FeedError → Reader → Reader → W → W
    → List ℕ → Type 0
GivesFirst k left (Ok size) old new w v bytes =
    (size ≤ length bytes) × (tokens : List Placed) × (taken_all k w tokens ≡ Ok v) × PassesPart size tokens old new bytes
GivesFirst k left (Err e) old new w v bytes = Stops k left e w v (reads (begun_by old) bytes)

-- all whole parts were read, and the bytes behind them are held
abbrev pub GivesAll : {W : Type 0} → Taking W → (W → W → Type 0) → Result ℕ FeedError → Reader → Reader → W → W → List ℕ
    → Type 0
GivesAll k left (Ok used) old new w v bytes =
    (used ≤ length bytes) × (tokens : List Placed) × (taken_all k w tokens ≡ Ok v)
    × (reads (begun_by old) bytes ≡ told_before tokens (begun_by (record new { held = drop used bytes })))
    × (found new (drop used bytes) ≡ more) × (is_whole new.extent ≡ true → drop used bytes ≡ [])
GivesAll k left (Err e) old new w v bytes = Stops k left e w v (reads (begun_by old) bytes)
