-- Tokens that wait, and what was read where they were given.
use Rattle.std.specs.Prelude.{◌≡◌, ℕ, List, [], ◌∷◌, ◌++◌, Option, Some, None, Result, Ok, Err, ⊤}
use Rattle.wbxml_tokens.specs.declared.reason.Refusal.{Refusal}
use Rattle.wbxml_tokens.specs.declared.reason.FeedError.{FeedError}
use Rattle.wbxml_tokens.specs.declared.reason.FeedError.TheVariants as errors
use Rattle.wbxml_tokens.specs.declared.token.Token.{Token}
use Rattle.wbxml_tokens.specs.declared.token.Placed.{Placed}
use Rattle.wbxml_tokens.specs.Reading.{Reader, reading}

-- tokens that wait, and the place of the next
pub record WaitingTokens : Type 0 where
  pub at : ℕ
  pub tokens : List Placed

abbrev pub waiting_after : WaitingTokens → Token → WaitingTokens
waiting_after w t = record w { tokens = w.tokens ++ record { at = w.at; token = t } ∷ [] }

-- tokens that wait, the first refusal, and the reader of what follows
pub record Held : Type 0 where
  pub waiting : List Placed
  pub refused : Option Refusal
  pub reader : Reader

-- these bytes were read, and the first of their tokens given
pub record HasRead (h : Held) (bytes : List ℕ) (given : List Placed) : Type 0 where
  pub tokens : (reading bytes).tokens ≡ given ++ h.waiting
  pub refused : (reading bytes).refused ≡ h.refused
  pub reader : h.refused ≡ None → h.reader ≡ (reading bytes).reader

-- an answer that tells a refusal, and none where there is none; want of memory tells nothing
abbrev pub TellsRefusal : Result Unit FeedError → Option Refusal → Type 0
TellsRefusal (Ok u) refusal = refusal ≡ None
TellsRefusal (Err (errors.Refused f)) refusal = refusal ≡ Some f
TellsRefusal (Err errors.Memory) refusal = ⊤

-- what an answer leaves: the same after want of memory, else what has read these bytes
abbrev pub LeavesHeld : Result Unit FeedError → Held → Held → List ℕ → List Placed → Type 0
LeavesHeld (Ok u) old new bytes given = HasRead new bytes given
LeavesHeld (Err (errors.Refused f)) old new bytes given = HasRead new bytes given
LeavesHeld (Err errors.Memory) old new bytes given = new ≡ old

abbrev pub IsRefusal : Result Unit Refusal → Option Refusal → Type 0
IsRefusal (Ok u) refusal = refusal ≡ None
IsRefusal (Err f) refusal = refusal ≡ Some f
