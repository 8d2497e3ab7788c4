-- What one exchange of a server does to its connection, and to what answers its message.
use Rattle.std.specs.Prelude.{◌≡◌, ◌⊎◌, ℕ, List, [], Option, Result, Ok, Err, ⊤}
use Rattle.std.specs.Io.KnownBytes.{Appends, Keeps}
use Rattle.dm_core.specs.Machines.{CoreMachine}
use Rattle.dm_heads.specs.declared.errors.HttpError.{HttpError}
use Rattle.dm_heads.specs.declared.errors.HttpError.TheVariants as error
use Rattle.dm_heads.specs.declared.heads.HeadKind.TheVariants as kind
use Rattle.dm_heads.specs.Asking.{AskedUnsettled}
use Rattle.dm_heads.specs.Receiving.{TakesPart, TakesWhole}
use Rattle.dm_http.specs.Posts.{PutsBeginning}
use Rattle.dm_http.specs.Replies.{reply_bytes, refusal_reply}

-- a connection and a core: what is left to take and what was got, where they are told, and the core's state
pub record ExchangeState (S : Type 0) : Type 0 where
  pub left : Option (List ℕ)
  pub got : Option (List ℕ)
  pub core : S

-- nothing was delivered
abbrev pub KeepsCore : {S : Type 0} → ExchangeState S → ExchangeState S → Type 0
KeepsCore old new = new.core ≡ old.core

-- a request was taken whole, and the core took exactly its message, with the nonce
abbrev pub Delivers : {S : Type 0} → CoreMachine S → List ℕ → ExchangeState S → ExchangeState S → List ℕ → Type 0
Delivers m nonce old new body =
    TakesWhole kind.Request [] old.left new.left (Ok body) × (new.core ≡ m.next old.core body nonce)

-- what is written for a message
abbrev pub reply_for : {S : Type 0} → CoreMachine S → List ℕ → S → List ℕ → List ℕ
reply_for m nonce core body = reply_bytes (m.reply core body nonce)

-- the message of a request was delivered and its reply put
abbrev pub AnswersRequest : {S : Type 0} → CoreMachine S → List ℕ → ExchangeState S → ExchangeState S → Type 0
AnswersRequest m nonce old new =
    (body : List ℕ) × Delivers m nonce old new body × Appends old.got new.got (reply_for m nonce old.core body)

-- it was delivered, and a beginning of its reply put
abbrev pub StopsReplying : {S : Type 0} → CoreMachine S → List ℕ → ExchangeState S → ExchangeState S → Type 0
StopsReplying m nonce old new =
    (body : List ℕ) × Delivers m nonce old new body × PutsBeginning old.got new.got (reply_for m nonce old.core body)

-- a request that isn't read was refused, and nothing delivered
abbrev pub RefusesRequest : {S : Type 0} → ExchangeState S → ExchangeState S → HttpError → Type 0
RefusesRequest old new e =
    TakesWhole kind.Request [] old.left new.left (Err e) × Appends old.got new.got refusal_reply × KeepsCore old new

-- a beginning of its refusal was put, and nothing delivered
abbrev pub StopsRefusing : {S : Type 0} → ExchangeState S → ExchangeState S → Type 0
StopsRefusing old new = (e : HttpError) × TakesWhole kind.Request [] old.left new.left (Err e)
    × PutsBeginning old.got new.got refusal_reply × KeepsCore old new

-- the connection failed where more of the request was wanted: nothing was put and nothing delivered
abbrev pub StopsTaking : {S : Type 0} → ExchangeState S → ExchangeState S → Type 0
StopsTaking old new = AskedUnsettled kind.Request old.left new.left × Keeps old.got new.got × KeepsCore old new

-- for want of memory the request wasn't taken, or its message wasn't: nothing was put and nothing delivered
abbrev pub StopsBefore : {S : Type 0} → ExchangeState S → ExchangeState S → Type 0
StopsBefore old new = TakesPart old.left new.left × Keeps old.got new.got × KeepsCore old new

-- by the answer: what was taken, what was put, and what was delivered
unfoldable pub ServesOne : {S : Type 0} → CoreMachine S → List ℕ → ExchangeState S → ExchangeState S
    → Result (Unit {0}) HttpError → Type 0
ServesOne m nonce old new (Ok u) = AnswersRequest m nonce old new
ServesOne m nonce old new (Err error.Failed) =
    StopsTaking old new ⊎ (StopsReplying m nonce old new ⊎ StopsRefusing old new)
ServesOne m nonce old new (Err error.Memory) =
    StopsBefore old new ⊎ (StopsReplying m nonce old new ⊎ StopsRefusing old new)
ServesOne m nonce old new (Err error.BadHead) = RefusesRequest old new error.BadHead
ServesOne m nonce old new (Err error.TooLong) = RefusesRequest old new error.TooLong
ServesOne m nonce old new (Err error.Cut) = RefusesRequest old new error.Cut
ServesOne m nonce old new (Err (error.NotOk code)) = ⊥

-- a text was put, or a beginning of it
abbrev pub PutsText : Option (List ℕ) → Option (List ℕ) → List ℕ → Result (Unit {0}) HttpError → Type 0
PutsText old new text (Ok u) = Appends old new text
PutsText old new text (Err error.Failed) = PutsBeginning old new text
PutsText old new text (Err error.Memory) = PutsBeginning old new text
PutsText old new text (Err other) = ⊥

-- why a request isn't read
abbrev pub IsUnread : HttpError → Type 0
IsUnread error.BadHead = ⊤
IsUnread error.TooLong = ⊤
IsUnread error.Cut = ⊤
IsUnread other = ⊥

-- the refusal was put, and this is why; or a beginning of it
abbrev pub PutsRefusal : Option (List ℕ) → Option (List ℕ) → HttpError → Result (Unit {0}) HttpError → Type 0
PutsRefusal old new why (Ok u) = ⊥
PutsRefusal old new why (Err e) = ((e ≡ why) × Appends old new refusal_reply) ⊎ PutsText old new refusal_reply (Err e)

-- a message was delivered and its reply put, or a beginning of it; or for want of memory neither
unfoldable pub AnswersMessage : {S : Type 0} → CoreMachine S → List ℕ → Option (List ℕ) → Option (List ℕ) → S → S
    → List ℕ → Result (Unit {0}) HttpError → Type 0
AnswersMessage m nonce before after old new body r =
    ((new ≡ m.next old body nonce) × PutsText before after (reply_for m nonce old body) r)
    ⊎ ((r ≡ Err error.Memory) × Keeps before after × (new ≡ old))
