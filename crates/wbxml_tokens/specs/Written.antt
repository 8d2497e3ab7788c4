-- What a writer has written is a document that spells the tokens it was given: it is held to the reader's spelling.
use Rattle.std.specs.Prelude.{◌≡◌, ◌<◌, ◌≤◌, ◌^◌, ⊤, ℕ, false, List, [], ◌∷◌, ◌++◌, length, map, None}
use Rattle.std.specs.List.{AllByRecursion}
use Rattle.wbxml_tokens.specs.declared.token.Token.{Token}
use Rattle.wbxml_tokens.specs.declared.token.Token.TheVariants.{Tag, End, Text, Opaque}
use Rattle.wbxml_tokens.specs.declared.token.Placed.{Placed}
use Rattle.wbxml_tokens.specs.declared.extent.Extent.{Extent}
use Rattle.wbxml_tokens.specs.declared.extent.Extent.TheVariants as extents
use Rattle.wbxml_tokens.specs.Spelling.{WrittenSoFar, written_after, given as given_to, prologue}
use Rattle.wbxml_tokens.specs.Reading.{most_bytes, extent_after, is_whole, refusal_of}
use Rattle.wbxml_tokens.specs.Spelled.{HasNoZero, IsPrologue, SpellsTokens}
use Rattle.wbxml_tokens.specs.Whole.{IsElement, extent_behind, tokens_read}

-- a writer that was given no token
abbrev pub at_prologue : WrittenSoFar
at_prologue = record { bytes = prologue; page = 0 }

-- A token that has a spelling as it stands: the byte 00 would end a text, and an opaque's length is an integer of 32
-- bits.
abbrev pub CanBeSpelled : Token → Type 0
CanBeSpelled (Tag e content) = ⊤
CanBeSpelled End = ⊤
CanBeSpelled (Text text) = HasNoZero text
CanBeSpelled (Opaque bytes) = length bytes < 2 ^ 32

-- each of the tokens stands where the one element of the body, which has come so far, isn't whole
abbrev pub AreInElement : Extent → List Token → Type 0
AreInElement extent [] = ⊤
AreInElement extent (t ∷ ts) = (is_whole extent ≡ false) × AreInElement (extent_after extent t) ts

-- these bytes are a prologue without strings, and a body that spells the tokens up to this page
pub record IsWrittenOf (given : List Token) (w : WrittenSoFar) : Type 0 where
  pub body : List ℕ
  pub placed : List Placed
  pub whole : w.bytes ≡ prologue ++ body
  pub is_prologue : IsPrologue [] prologue
  pub tokens : map (λ (p : Placed). p.token) placed ≡ given
  pub spells : SpellsTokens [] 0 (length prologue) extents.Before placed body w.page
      (extent_behind extents.Before given)

-- What was written spells the tokens that were given, in their order and no others, where each can be spelled and none
-- stands behind the whole element.
abbrev pub WrittenIsSpelled : Type 0
WrittenIsSpelled =
    (tokens : List Token) → AllByRecursion CanBeSpelled tokens → AreInElement extents.Before tokens
    → IsWrittenOf tokens (given_to written_after at_prologue tokens)

-- The tokens of one element are written as a whole document, which is read as them, where it isn't too long.
abbrev pub WrittenIsRead : Type 0
WrittenIsRead =
    (tokens : List Token) → AllByRecursion CanBeSpelled tokens → IsElement tokens
    → length (given_to written_after at_prologue tokens).bytes ≤ most_bytes
    → (refusal_of (given_to written_after at_prologue tokens).bytes ≡ None)
    × (tokens_read (given_to written_after at_prologue tokens).bytes ≡ tokens)
