-- What a head that is read holds, in the words of the field, and what more bytes do to an answer.
use Rattle.std.specs.Prelude.{◌≡◌, ◌≢◌, ◌≤◌, ◌⊎◌, ◌++◌, ℕ, IsTrue, List, [], ◌∷◌, length, take, map, filter, codes}
use Rattle.std.specs.Prelude.{Result, Ok, Err}
use Rattle.std.specs.Str.Parse.{digits_value}
use Rattle.dm_base.specs.Fields.{is_numeral}
use Rattle.httparse.specs.Grammar.{RequestHead, print_request, ReadsRequest, ResponseHead, print_response}
use Rattle.httparse.specs.Grammar.{ReadsResponse}
use Rattle.httparse.specs.Grammar.{status_code}
use Rattle.httparse.specs.Spans.{name_and_value}
use Rattle.dm_heads.specs.declared.errors.HttpError.{HttpError}
use Rattle.dm_heads.specs.declared.errors.HttpError.TheVariants as error
use Rattle.dm_heads.specs.declared.extents.HeadVerdict.{HeadVerdict}
use Rattle.dm_heads.specs.declared.extents.HeadVerdict.TheVariants as verdict
use Rattle.dm_heads.specs.declared.heads.HeadKind.{HeadKind}
use Rattle.dm_heads.specs.declared.heads.HeadKind.TheVariants as kind
use Rattle.dm_heads.specs.Extents.{body_limit, is_named}
use Rattle.dm_heads.specs.Messages.{field_limit, head_limit, HasHead, HeadedAnswer, Brings, Settles}
use Rattle.dm_heads.specs.Asking.{WantsBody}

-- the values of the fields of a name
abbrev pub values_named : List ℕ → List (List ℕ × List ℕ) → List (List ℕ)
values_named name fields = map (λ (f : List ℕ × List ℕ). f.1) (filter (is_named name) fields)

-- no field says that the body is coded
abbrev pub IsUncoded : List (List ℕ × List ℕ) → Type 0
IsUncoded fields = values_named (codes "transfer-encoding") fields ≡ []

-- one field says the length, in digits, and it is this
abbrev pub StatesLength : List (List ℕ × List ℕ) → ℕ → Type 0
StatesLength fields n = (text : List ℕ) × (values_named (codes "content-length") fields ≡ text ∷ []) × IsTrue (is_numeral text)
    × (length text ≤ 20) × (digits_value 10 text ≡ n) × (n ≤ body_limit)

abbrev pub StatesNoLength : List (List ℕ × List ℕ) → Type 0
StatesNoLength fields = values_named (codes "content-length") fields ≡ []

-- the body is what stands behind the head, as long as the fields say; nothing behind that is looked at
abbrev pub IsSizedBody : List (List ℕ × List ℕ) → List ℕ → List ℕ → Type 0
IsSizedBody fields rest body = (n : ℕ) × StatesLength fields n × (n ≤ length rest) × (body ≡ take n rest)

-- no field says a length, and the body is all that stands behind the head
abbrev pub IsWholeBody : List (List ℕ × List ℕ) → List ℕ → List ℕ → Type 0
IsWholeBody fields rest body = StatesNoLength fields × (length rest ≤ body_limit) × (body ≡ rest)

-- a request with this message
pub record IsPost (h : RequestHead) (rest body : List ℕ) : Type 0 where
  pub method : h.method ≡ codes "POST"
  pub uncoded : IsUncoded (map name_and_value h.fields)
  pub sized : IsSizedBody (map name_and_value h.fields) rest body

-- a reply with this message
pub record IsOkReply (h : ResponseHead) (rest body : List ℕ) : Type 0 where
  pub status : status_code h ≡ 200
  pub uncoded : IsUncoded (map name_and_value h.fields)
  pub behind : IsSizedBody (map name_and_value h.fields) rest body ⊎ IsWholeBody (map name_and_value h.fields) rest body

abbrev pub RequestHolds : Type 0
RequestHolds = (bytes body : List ℕ) → Brings kind.Request bytes (Ok body)
    → (h : RequestHead) × (rest : List ℕ) × ReadsRequest bytes h rest × IsPost h rest body

abbrev pub ReplyHolds : Type 0
ReplyHolds = (bytes body : List ℕ) → Brings kind.Reply bytes (Ok body)
    → (h : ResponseHead) × (rest : List ℕ) × ReadsResponse bytes h rest × IsOkReply h rest body

-- heads within the limits that are so bring the message
abbrev pub PostsBring : Type 0
PostsBring = (bytes body : List ℕ) (h : RequestHead) (rest : List ℕ) → ReadsRequest bytes h rest → length h.fields ≤ field_limit
    → length (print_request h) ≤ head_limit → IsPost h rest body → Brings kind.Request bytes (Ok body)

abbrev pub OkRepliesBring : Type 0
OkRepliesBring = (bytes body : List ℕ) (h : ResponseHead) (rest : List ℕ) → ReadsResponse bytes h rest → length h.fields ≤ field_limit
    → length (print_response h) ≤ head_limit → IsOkReply h rest body → Brings kind.Reply bytes (Ok body)

-- a status is told of a reply alone, and it is the head's
abbrev pub ReplyStatusHolds : Type 0
ReplyStatusHolds = (bytes : List ℕ) (code : ℕ) → Brings kind.Reply bytes (Err (error.NotOk code))
    → (h : ResponseHead) × (rest : List ℕ) × ReadsResponse bytes h rest × (status_code h ≡ code) × (code ≢ 200)

abbrev pub NoRequestStatus : Type 0
NoRequestStatus = (bytes : List ℕ) (code : ℕ) → ¬ (Brings kind.Request bytes (Err (error.NotOk code)))

-- what stands behind a stated length isn't looked at
abbrev pub LengthEndsBody : Type 0
LengthEndsBody = (k : HeadKind) (bytes rest : List ℕ) (n : ℕ) → HasHead k bytes (verdict.Sized n) rest → n ≤ length rest
    → Settles k bytes (Ok (take n rest))

-- behind a head that more of a body may follow, no answer is settled
abbrev pub WantedIsUnsettled : Type 0
WantedIsUnsettled = (k : HeadKind) (bytes : List ℕ) (v : HeadVerdict) (rest : List ℕ) (r : Result (List ℕ) HttpError)
    → HasHead k bytes v rest → WantsBody v rest → ¬ (Settles k bytes r)

-- what bytes with a whole head are answered is their only answer
abbrev pub OneAnswerEach : Type 0
OneAnswerEach = (k : HeadKind) (bytes : List ℕ) (r s : Result (List ℕ) HttpError) → HeadedAnswer k bytes r → Brings k bytes s
    → s ≡ r

-- more bytes never change a settled answer
abbrev pub SettledStays : Type 0
SettledStays = (k : HeadKind) (bytes more : List ℕ) (r : Result (List ℕ) HttpError) → Settles k bytes r
    → Settles k (bytes ++ more) r
