-- Which bytes spell a message, and where and why all others are refused.
use Rattle.std.specs.Prelude.{◌≡◌, ◌≤◌, ℕ, List, [], ◌∷◌, ◌++◌, length, take}
use Rattle.wbxml_tokens.specs.declared.reason.Reason.{Reason}
use Rattle.wbxml_tokens.specs.declared.reason.Reason.TheVariants as reasons
use Rattle.wbxml_tokens.specs.declared.token.Token.{Token}
use Rattle.wbxml_tokens.specs.declared.token.Placed.{Placed}
use Rattle.wbxml_tokens.specs.declared.extent.Extent.{Extent}
use Rattle.wbxml_tokens.specs.declared.extent.Extent.TheVariants as extents
use Rattle.wbxml_tokens.specs.Reading.{most_bytes}
use Rattle.wbxml_tokens.specs.Spelled.{IsPrologue, SpellsTokens, RefusedAt}
use Rattle.syncml_types.specs.Message.{Parts}
use Rattle.syncml_grammar.specs.Reads.{SpellsParts}
use Rattle.syncml_grammar.specs.Refusals.{IsRefused}
use Rattle.syncml_grammar.specs.Taken.{tokens}

-- The bytes, at most 65,536, are a prologue and then the tokens of a message with these parts.
pub record Spells (bytes : List ℕ) (parts : Parts) : Type 0 where
  pub table : List ℕ
  pub prologue : List ℕ
  pub body : List ℕ
  pub placed : List Placed
  pub page : ℕ
  pub extent : Extent
  pub whole : bytes ≡ prologue ++ body
  pub within : length bytes ≤ most_bytes
  pub is_prologue : IsPrologue table prologue
  pub spells : SpellsTokens table 0 (length prologue) extents.Before placed body page extent
  pub message : SpellsParts (tokens placed) parts

-- Of the first 65,536 bytes a token is refused by the grammar: it stands behind a prologue and tokens that are taken.
pub record TokenRefusedAt (bytes : List ℕ) (at : ℕ) (reason : Reason) : Type 0 where
  pub table : List ℕ
  pub prologue : List ℕ
  pub body : List ℕ
  pub rest : List ℕ
  pub before : List Placed
  pub token : Token
  pub page : ℕ
  pub extent : Extent
  pub whole : take most_bytes bytes ≡ prologue ++ (body ++ rest)
  pub is_prologue : IsPrologue table prologue
  pub spells : SpellsTokens table 0 (length prologue) extents.Before (before ++ record { at = at; token = token } ∷ [])
      body page extent
  pub refused : IsRefused (tokens before) token reason

-- the grammar refuses no token
abbrev pub NoTokenRefused : List ℕ → Type 0
NoTokenRefused bytes = (at : ℕ) (reason : Reason) → TokenRefusedAt bytes at reason → ⊥

-- no byte is refused as the bytes of tokens
abbrev pub NoByteRefused : List ℕ → Type 0
NoByteRefused bytes = (at : ℕ) (reason : Reason) → RefusedAt bytes at reason → ⊥

-- the bytes spell no message
abbrev pub SpellsNone : List ℕ → Type 0
SpellsNone bytes = (parts : Parts) → Spells bytes parts → ⊥

-- Where bytes are refused, and why: a token is refused by the grammar; or none is, and a byte is; or neither is, and
-- the bytes end before a message does.
pub data MessageRefusedAt (bytes : List ℕ) : ℕ → Reason → Type 0 where
  by_grammar : {at : ℕ} {reason : Reason} → TokenRefusedAt bytes at reason → MessageRefusedAt bytes at reason
  by_reader : {at : ℕ} {reason : Reason} → RefusedAt bytes at reason → NoTokenRefused bytes
      → MessageRefusedAt bytes at reason
  cut : NoByteRefused bytes → NoTokenRefused bytes → SpellsNone bytes
      → MessageRefusedAt bytes (length bytes) reasons.Truncated
