-- Which token is refused and why, and what is answered of a whole list.
use Rattle.std.specs.Prelude.{◌≡◌, ◌↔◌, ◌⊎◌, ℕ, ◌+◌, ◌≤◌, List, [], ◌∷◌, ◌++◌, length, Option, Some, None, Result, Ok}
use Rattle.std.specs.Prelude.{Err, IsTrue}
use Rattle.wbxml_tokens.specs.declared.reason.Reason.{Reason}
use Rattle.wbxml_tokens.specs.declared.reason.Reason.TheVariants as reasons
use Rattle.wbxml_tokens.specs.declared.token.Token.{Token}
use Rattle.syncml_shape.specs.Forest.{Forest}
use Rattle.syncml_shape.specs.Rows.{document}
use Rattle.syncml_shape.specs.Shape.{fits, HasShape, IsViable}
use Rattle.syncml_shape.specs.Faults.{IsRefused as IsMisshapen}
use Rattle.syncml_types.specs.Message.{Parts}
use Rattle.syncml_grammar.specs.Reads.{Unread, read_document, SpellsParts}
use Rattle.syncml_grammar.specs.Machine.{Frame, root, step, finished_parts}
use Rattle.syncml_grammar.specs.Building.{HasTaken}

-- no text that these tokens close is unread, in whatever document begins with them
abbrev pub AllRead : List Token → Type 0
AllRead tokens =
    (more : List Token) (tree : Forest) (unread : Unread)
    → HasShape (tokens ++ more) tree → read_document tree ≡ Err unread → length tokens ≤ unread.at

-- of every document that begins with these tokens and the next, that one closes the first text that is unread
abbrev pub ClosesUnread : List Token → Token → Reason → Type 0
ClosesUnread before token reason =
    (more : List Token) (tree : Forest)
    → HasShape ((before ++ token ∷ []) ++ more) tree
    → read_document tree ≡ Err (record { at = length before; reason = reason })

-- What is before it is read; and no document goes on with the token, or it closes a text or a number that doesn't read.
abbrev pub IsRefused : List Token → Token → Reason → Type 0
IsRefused before token reason =
    AllRead before
    × (IsMisshapen before token reason ⊎ (IsViable (before ++ token ∷ []) × ClosesUnread before token reason))

-- the token at a place is refused; tokens are counted from 0
abbrev pub IsRefusedAt : List Token → ℕ → Reason → Type 0
IsRefusedAt tokens at reason =
    (before : List Token) × (token : Token) × (rest : List Token)
    × (tokens ≡ before ++ token ∷ rest) × (length before ≡ at) × IsRefused before token reason

-- of a whole list: the message that it spells, or that it only begins one, or the place and the reason of the refused
-- token
pub data Verdict : Type 0 where
  message : Parts → Verdict
  unfinished : Verdict
  refused : ℕ → Reason → Verdict

abbrev pub Judges : List Token → Verdict → Type 0
Judges tokens (message parts) = SpellsParts tokens parts
Judges tokens unfinished = IsViable tokens × AllRead tokens × ((parts : Parts) → SpellsParts tokens parts → ⊥)
Judges tokens (refused at reason) = IsRefusedAt tokens at reason

abbrev pub message_or_not : Option Parts → Verdict
message_or_not None = unfinished
message_or_not (Some parts) = message parts

abbrev pub verdict_then : ℕ → Result (List Frame) Reason → (List Frame → Verdict) → Verdict
verdict_then at (Ok frames) f = f frames
verdict_then at (Err reason) f = refused at reason

-- the same, computed
abbrev pub verdict_from : ℕ → List Frame → List Token → Verdict
verdict_from at frames [] = message_or_not (finished_parts frames)
verdict_from at frames (token ∷ tokens) =
    verdict_then at (step frames token) (λ after. verdict_from (at + 1) after tokens)

abbrev pub verdict_of : List Token → Verdict
verdict_of tokens = verdict_from 0 (root ∷ []) tokens

-- ---- laws

-- of each list of tokens exactly one thing is judged, and it is the computed one
abbrev pub JudgedIsComputed : Type 0
JudgedIsComputed = (tokens : List Token) (verdict : Verdict) → Judges tokens verdict ↔ (verdict_of tokens ≡ verdict)

-- behind tokens that were taken, a step refuses a token exactly where it is refused, and for its reason
abbrev pub StepIsRefused : Type 0
StepIsRefused =
    (before : List Token) (frames : List Frame) (token : Token) (reason : Reason)
    → HasTaken frames before → (step frames token ≡ Err reason) ↔ IsRefused before token reason

-- the parts behind tokens that were taken are those that they spell
abbrev pub FinishedIsSpelled : Type 0
FinishedIsSpelled =
    (tokens : List Token) (frames : List Frame) (parts : Parts)
    → HasTaken frames tokens → (finished_parts frames ≡ Some parts) ↔ SpellsParts tokens parts

-- tokens are all taken exactly where they begin a document and no text that they close is unread
abbrev pub TakenIsRead : Type 0
TakenIsRead =
    (tokens : List Token) → ((frames : List Frame) × HasTaken frames tokens) ↔ (IsViable tokens × AllRead tokens)

-- what doesn't read is a text or a number
abbrev pub UnreadIsText : Type 0
UnreadIsText =
    (tree : Forest) (unread : Unread)
    → IsTrue (fits document tree) → read_document tree ≡ Err unread
    → (unread.reason ≡ reasons.Text) ⊎ (unread.reason ≡ reasons.Number)
