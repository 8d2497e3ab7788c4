-- What bytes and messages have to do with each other.
use Rattle.std.specs.Prelude.{◌≡◌, ◌↔◌, ◌<◌, ◌≤◌, ◌+◌, ℕ, List, [], ◌++◌, length, take, Some, Ok, Err}
use Rattle.std.specs.List.{AllByRecursion}
use Rattle.wbxml_ints.specs.Multibyte.{AreBytes}
use Rattle.wbxml_tokens.specs.declared.reason.Reason.{Reason}
use Rattle.wbxml_tokens.specs.declared.reason.Reason.TheVariants as reasons
use Rattle.wbxml_tokens.specs.declared.reason.Refusal.{Refusal}
use Rattle.wbxml_tokens.specs.Reading.{most_bytes}
use Rattle.wbxml_tokens.specs.Spelled.{RefusedAt}
use Rattle.wbxml_tokens.specs.Written.{CanBeSpelled}
use Rattle.syncml_types.specs.Message.{Parts}
use Rattle.syncml_types.specs.Canonical.{canonical, message_tokens}
use Rattle.syncml_types.specs.Fitness.{IsFit}
use Rattle.syncml_grammar.specs.Reads.{SpellsParts}
use Rattle.syncml_codec.specs.Ranges.{AreNumbers}
use Rattle.syncml_codec.specs.Messages.{Spells, TokenRefusedAt, NoTokenRefused, MessageRefusedAt}
use Rattle.syncml_codec.specs.Decoding.{read_of, settled}

-- What is read of bytes is the message that they spell.
abbrev pub SpelledIsRead : Type 0
SpelledIsRead = (bytes : List ℕ) (parts : Parts) → AreBytes bytes → (read_of bytes ≡ Ok parts) ↔ Spells bytes parts

-- What is refused of bytes is what is refused first.
abbrev pub RefusedIsRead : Type 0
RefusedIsRead =
    (bytes : List ℕ) (refusal : Refusal) → AreBytes bytes
    → (read_of bytes ≡ Err refusal) ↔ MessageRefusedAt bytes refusal.at refusal.reason

-- Bytes spell at most one message.
abbrev pub OneIsSpelled : Type 0
OneIsSpelled = (bytes : List ℕ) (a b : Parts) → AreBytes bytes → Spells bytes a → Spells bytes b → a ≡ b

-- No spelling is a proper prefix of another.
abbrev pub NoneGoesOn : Type 0
NoneGoesOn =
    (bytes more : List ℕ) (a b : Parts) → AreBytes (bytes ++ more) → Spells bytes a → Spells (bytes ++ more) b
    → more ≡ []

-- Bytes settle a refusal exactly where it is theirs, whatever follows them.
abbrev pub SettledIsForGood : Type 0
SettledIsForGood =
    (bytes : List ℕ) (refusal : Refusal) → AreBytes bytes
    → (settled bytes ≡ Some refusal) ↔ ((more : List ℕ) → read_of (bytes ++ more) ≡ Err refusal)

-- A refusal other than truncated is settled by the bytes that have it.
abbrev pub RefusedIsSettled : Type 0
RefusedIsSettled =
    (bytes : List ℕ) (refusal : Refusal) → read_of bytes ≡ Err refusal → (refusal.reason ≡ reasons.Truncated → ⊥)
    → settled bytes ≡ Some refusal

-- Where the grammar refuses a token, the bytes up to its end settle that.
abbrev pub RefusedTokenIsSettled : Type 0
RefusedTokenIsSettled =
    (bytes : List ℕ) (at : ℕ) (reason : Reason) (token : TokenRefusedAt bytes at reason)
    → settled (token.prologue ++ token.body) ≡ Some (record { at = at; reason = reason })

-- Where the reader refuses a byte, and the grammar no token, that byte and the five behind it settle it, with those
-- before them: no part is refused for more, an identifier aside, which is judged by its text once the string table is
-- whole.
abbrev pub RefusedPartIsSettled : Type 0
RefusedPartIsSettled =
    (bytes : List ℕ) (at : ℕ) (reason : Reason) → AreBytes bytes → RefusedAt bytes at reason → NoTokenRefused bytes
    → (reason ≡ reasons.Publicid → ⊥)
    → settled (take (at + 6) bytes) ≡ Some (record { at = at; reason = reason })

-- Truncated is never settled: no bytes with one more are refused as truncated at that place.
abbrev pub TruncatedIsOpen : Type 0
TruncatedIsOpen =
    (bytes more : List ℕ) (at : ℕ) → AreBytes (bytes ++ more)
    → read_of bytes ≡ Err (record { at = at; reason = reasons.Truncated }) → 0 < length more
    → read_of (bytes ++ more) ≡ Err (record { at = at; reason = reasons.Truncated }) → ⊥

-- The canonical tokens of a fit message, each number of which is in the range of its type, spell it.
abbrev pub CanonicalIsSpelled : Type 0
CanonicalIsSpelled =
    (parts : Parts) → IsFit parts.header parts.body → AreNumbers parts → SpellsParts (message_tokens parts) parts

-- Each of these tokens can be spelled: no text has the byte 00, and no opaque more bytes than 32 bits can tell.
abbrev pub CanonicalCanBeSpelled : Type 0
CanonicalCanBeSpelled =
    (parts : Parts) → IsFit parts.header parts.body → AreNumbers parts
    → AllByRecursion CanBeSpelled (message_tokens parts)

-- The canonical spelling of such a message, where it has at most 65,536 bytes, spells it, so it is read again.
abbrev pub CanonicalIsRead : Type 0
CanonicalIsRead =
    (parts : Parts) → IsFit parts.header parts.body → AreNumbers parts → length (canonical parts) ≤ most_bytes
    → Spells (canonical parts) parts × (read_of (canonical parts) ≡ Ok parts)

-- Each number of what bytes spell is in the range of its type.
abbrev pub SpelledIsInRange : Type 0
SpelledIsInRange = (bytes : List ℕ) (parts : Parts) → Spells bytes parts → AreNumbers parts
