-- What the bytes of a connection bring: a head of the grammar of httparse with at most 32 fields in at most 8,192
-- bytes, and the body behind it.
use Rattle.std.specs.Prelude.{◌≡◌, ◌<◌, ◌≤◌, ◌⊎◌, ◌++◌, ℕ, List, length, take, map, drop, nat_le, if◌then◌else◌, Result}
use Rattle.std.specs.Prelude.{Ok, Err}
use Rattle.httparse.specs.Grammar.{RequestHead, print_request, ReadsRequest, ResponseHead, print_response}
use Rattle.httparse.specs.Grammar.{ReadsResponse}
use Rattle.httparse.specs.Grammar.{status_code, MayBecomeRequest, MayBecomeResponse}
use Rattle.httparse.specs.Spans.{name_and_value}
use Rattle.dm_heads.specs.declared.errors.HttpError.{HttpError}
use Rattle.dm_heads.specs.declared.errors.HttpError.TheVariants as error
use Rattle.dm_heads.specs.declared.extents.HeadVerdict.{HeadVerdict}
use Rattle.dm_heads.specs.declared.extents.HeadVerdict.TheVariants as verdict
use Rattle.dm_heads.specs.declared.heads.HeadKind.{HeadKind}
use Rattle.dm_heads.specs.declared.heads.HeadKind.TheVariants as kind
use Rattle.dm_heads.specs.declared.heads.HeadSoFar.{HeadSoFar}
use Rattle.dm_heads.specs.declared.heads.HeadSoFar.TheVariants as so_far
use Rattle.dm_heads.specs.Extents.{body_limit, reply_verdict, request_verdict}

-- how long a head is at most
abbrev pub head_limit : ℕ
head_limit = 8192

-- how many fields a head has at most
abbrev pub field_limit : ℕ
field_limit = 32

-- the bytes begin with a whole head of a reply, which makes this of what follows it
abbrev pub HasReplyHead : List ℕ → HeadVerdict → List ℕ → Type 0
HasReplyHead bytes v rest = (h : ResponseHead) × ReadsResponse bytes h rest
    × (length h.fields ≤ field_limit) × (length (print_response h) ≤ head_limit)
    × (v ≡ reply_verdict (status_code h) (map name_and_value h.fields))

-- the same of a request
abbrev pub HasRequestHead : List ℕ → HeadVerdict → List ℕ → Type 0
HasRequestHead bytes v rest = (h : RequestHead) × ReadsRequest bytes h rest
    × (length h.fields ≤ field_limit) × (length (print_request h) ≤ head_limit)
    × (v ≡ request_verdict h.method (map name_and_value h.fields))

unfoldable pub HasHead : HeadKind → List ℕ → HeadVerdict → List ℕ → Type 0
HasHead kind.Reply = HasReplyHead
HasHead kind.Request = HasRequestHead

-- no whole head is there
abbrev pub HasNoHead : HeadKind → List ℕ → Type 0
HasNoHead k bytes = (v : HeadVerdict) (rest : List ℕ) → ¬ (HasHead k bytes v rest)

-- nor do any bytes that follow make one
abbrev pub NeverHasHead : HeadKind → List ℕ → Type 0
NeverHasHead k bytes = (more : List ℕ) → HasNoHead k (bytes ++ more)

-- some bytes can follow that make a head, of any number of fields; or a request's target is still being read
unfoldable pub MayBecomeHead : HeadKind → List ℕ → Type 0
MayBecomeHead kind.Reply = MayBecomeResponse
MayBecomeHead kind.Request = MayBecomeRequest

-- what a head and all bytes behind it bring: a body, or a refusal
abbrev pub body_of : HeadVerdict → List ℕ → Result (List ℕ) HttpError
body_of verdict.BadHead rest = Err error.BadHead
body_of (verdict.NotOk code) rest = Err (error.NotOk code)
body_of verdict.TooLong rest = Err error.TooLong
body_of (verdict.Sized n) rest = if nat_le n (length rest) then Ok (take n rest) else Err error.Cut
body_of verdict.Unsized rest = if nat_le (length rest) body_limit then Ok rest else Err error.TooLong

-- what bytes without a whole head are answered: more of them never make one, or the stream ended too early
abbrev pub Headless : HeadKind → List ℕ → HttpError → Type 0
Headless k bytes error.BadHead = NeverHasHead k bytes
Headless k bytes error.Cut = (length bytes < head_limit) × HasNoHead k bytes × MayBecomeHead k bytes
Headless k bytes other = ⊥

abbrev pub HeadlessAnswer : HeadKind → List ℕ → Result (List ℕ) HttpError → Type 0
HeadlessAnswer k bytes (Ok body) = ⊥
HeadlessAnswer k bytes (Err e) = Headless k bytes e

-- what bytes with a whole head are answered
abbrev pub HeadedAnswer : HeadKind → List ℕ → Result (List ℕ) HttpError → Type 0
HeadedAnswer k bytes r = (v : HeadVerdict) × (rest : List ℕ) × HasHead k bytes v rest × (r ≡ body_of v rest)

-- what all bytes of a connection bring
unfoldable pub Brings : HeadKind → List ℕ → Result (List ℕ) HttpError → Type 0
Brings k bytes r = HeadedAnswer k bytes r ⊎ HeadlessAnswer k bytes r

-- these bytes settle the answer: whatever follows them, it is this
abbrev pub Settles : HeadKind → List ℕ → Result (List ℕ) HttpError → Type 0
Settles k bytes r = (more : List ℕ) → Brings k (bytes ++ more) r

-- what is known of the front of the bytes so far
abbrev pub IsReplySoFar : List ℕ → HeadSoFar → Type 0
IsReplySoFar bytes (so_far.Whole v n) = (n ≤ length bytes) × HasReplyHead bytes v (drop n bytes)
IsReplySoFar bytes so_far.Partial =
    ((v : HeadVerdict) (rest : List ℕ) → ¬ (HasReplyHead bytes v rest)) × MayBecomeResponse bytes
IsReplySoFar bytes so_far.Never =
    (more : List ℕ) (v : HeadVerdict) (rest : List ℕ) → ¬ (HasReplyHead (bytes ++ more) v rest)

abbrev pub IsRequestSoFar : List ℕ → HeadSoFar → Type 0
IsRequestSoFar bytes (so_far.Whole v n) = (n ≤ length bytes) × HasRequestHead bytes v (drop n bytes)
IsRequestSoFar bytes so_far.Partial =
    ((v : HeadVerdict) (rest : List ℕ) → ¬ (HasRequestHead bytes v rest)) × MayBecomeRequest bytes
IsRequestSoFar bytes so_far.Never =
    (more : List ℕ) (v : HeadVerdict) (rest : List ℕ) → ¬ (HasRequestHead (bytes ++ more) v rest)

abbrev pub IsHeadSoFar : HeadKind → List ℕ → HeadSoFar → Type 0
IsHeadSoFar k bytes (so_far.Whole v n) = (n ≤ length bytes) × HasHead k bytes v (drop n bytes)
IsHeadSoFar k bytes so_far.Partial = HasNoHead k bytes × MayBecomeHead k bytes
IsHeadSoFar k bytes so_far.Never = NeverHasHead k bytes
