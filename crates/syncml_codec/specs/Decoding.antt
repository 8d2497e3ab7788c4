-- What is read of bytes: the message that they spell, or their first refusal. It is computed by the reader and the
-- builder; what it means stands in `Messages`, and the laws join the two.
use Rattle.std.specs.Prelude.{◌≡◌, ℕ, List, length, Option, Some, None, Result, Ok, Err, ⊤}
use Rattle.wbxml_tokens.specs.declared.reason.Refusal.{Refusal}
use Rattle.wbxml_tokens.specs.declared.reason.FeedError.{FeedError}
use Rattle.wbxml_tokens.specs.declared.reason.FeedError.TheVariants as errors
use Rattle.wbxml_tokens.specs.declared.reason.Reason.TheVariants as reasons
use Rattle.wbxml_tokens.specs.Reading.{Reader, reading}
use Rattle.wbxml_tokens.specs.Taking.{taken_all}
use Rattle.syncml_types.specs.Message.{Parts}
use Rattle.syncml_grammar.specs.Building.{Building, no_building, built_by}
use Rattle.syncml_grammar.specs.Taken.{building}
use Rattle.syncml_codec.specs.Messages.{Spells, MessageRefusedAt}

-- what is built of the tokens that are read, or the refusal of the first that the grammar doesn't take
abbrev pub built : List ℕ → Result Building Refusal
built bytes = taken_all building no_building (reading bytes).tokens

abbrev pub first_refused : Result Building Refusal → Option Refusal → Option Refusal
first_refused (Err refusal) refused = Some refusal
first_refused (Ok b) refused = refused

-- the first refusal that these bytes settle, whatever follows them
unfoldable pub settled : List ℕ → Option Refusal
settled bytes = first_refused (built bytes) (reading bytes).refused

abbrev pub parts_of : Result Building Refusal → Option Parts
parts_of (Err refusal) = None
parts_of (Ok b) = built_by b

abbrev pub read_by : Option Refusal → Option Parts → ℕ → Result Parts Refusal
read_by (Some refusal) parts at = Err refusal
read_by None (Some parts) at = Ok parts
read_by None None at = Err (record { at = at; reason = reasons.Truncated })

-- the parts of the message that the bytes spell, or their first refusal
unfoldable pub read_of : List ℕ → Result Parts Refusal
read_of bytes = read_by (settled bytes) (parts_of (built bytes)) (length bytes)

-- ---- answers

-- an answer to bytes is what is read of them, or want of memory
abbrev pub IsRead : Result Parts FeedError → Result Parts Refusal → Type 0
IsRead (Ok parts) read = read ≡ Ok parts
IsRead (Err (errors.Refused refusal)) read = read ≡ Err refusal
IsRead (Err errors.Memory) read = ⊤

-- an answer to bytes is the message that they spell, or why they are refused, or want of memory
abbrev pub Decodes : Result Parts FeedError → List ℕ → Type 0
Decodes (Ok parts) bytes = Spells bytes parts
Decodes (Err (errors.Refused refusal)) bytes = MessageRefusedAt bytes refusal.at refusal.reason
Decodes (Err errors.Memory) bytes = ⊤

-- a refusal is told exactly where it is settled
abbrev pub TellsSettled : Result Unit FeedError → Option Refusal → Type 0
TellsSettled (Ok u) refused = refused ≡ None
TellsSettled (Err (errors.Refused refusal)) refused = refused ≡ Some refusal
TellsSettled (Err errors.Memory) refused = ⊤

-- ---- a decoder

-- the reader of what follows, what was built, how many bytes came, and why no more are read
pub record Decoding : Type 0 where
  pub reader : Reader
  pub building : Building
  pub length : ℕ
  pub stopped : Option FeedError

-- where a decoder stands behind bytes, by why it stopped
abbrev pub StandsBehind : Option FeedError → Decoding → List ℕ → Type 0
StandsBehind None d bytes =
    (settled bytes ≡ None) × (d.reader ≡ (reading bytes).reader) × (built bytes ≡ Ok d.building)
    × (d.length ≡ length bytes)
StandsBehind (Some (errors.Refused refusal)) d bytes = settled bytes ≡ Some refusal
StandsBehind (Some errors.Memory) d bytes = ⊤

-- these bytes were fed, in whatever pieces
unfoldable pub HasDecoded : Decoding → List ℕ → Type 0
HasDecoded d bytes = StandsBehind d.stopped d bytes

-- nothing has stopped it
abbrev pub IsGoing : Decoding → Type 0
IsGoing d = d.stopped ≡ None

-- it has answered this, and reads no more
abbrev pub HasAnswered : Decoding → FeedError → Type 0
HasAnswered d error = d.stopped ≡ Some error
