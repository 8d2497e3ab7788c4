-- What the texts of a tree read as: the message, or the first text or number that doesn't read.
use Rattle.std.specs.Prelude.{◌≡◌, ℕ, ◌+◌, List, Option, Some, None, Result, Ok, Err}
use Rattle.wbxml_tokens.specs.declared.reason.Reason.{Reason}
use Rattle.wbxml_tokens.specs.declared.reason.Reason.TheVariants.{Misplaced}
use Rattle.wbxml_tokens.specs.declared.token.Token.{Token}
use Rattle.syncml_shape.specs.Forest.{Forest, nothing, text, opaque, bare, full}
use Rattle.syncml_shape.specs.Rows.{Content, document, start, next_child}
use Rattle.syncml_shape.specs.Shape.{HasShape}
use Rattle.syncml_types.specs.Message.{Parts}
use Rattle.syncml_types.specs.declared.values.Header.{Header}
use Rattle.syncml_grammar.specs.declared.draft.Draft.TheVariants as draft
use Rattle.syncml_grammar.specs.declared.draft.MessageDraft.{MessageDraft}
use Rattle.syncml_grammar.specs.Values.{Value, of_draft, fresh_value, with_text, closed_value, with_child}

-- a reason, and the place of the token that closes what doesn't read; tokens are counted from 0
pub record Unread : Type 0 where
  pub at : ℕ
  pub reason : Reason

infixl 10 ◌then◌
abbrev pub ◌then◌ : {A B E : Type 0} → Result A E → (A → Result B E) → Result B E
(Ok x) then f = f x
(Err e) then f = Err e

abbrev pub at_place : {A : Type 0} → ℕ → Result A Reason → Result A Unread
at_place at (Ok x) = Ok x
at_place at (Err reason) = Err (record { at = at; reason = reason })

-- What an element holds behind this content, and the place behind it, where the content begins at a place. A bare
-- element is closed by its tag, any other by its END.
abbrev pub read : ℕ → Value → Content → Forest → Result (Value × ℕ) Unread
read at value content nothing = Ok (value, at)
read at value content (text bytes rest) = read (at + 1) (with_text value bytes) content rest
read at value content (opaque bytes rest) = read (at + 1) (with_text value bytes) content rest
read at value content (bare e rest) =
    elim (next_child content e) [
      | None ↦ Err (record { at = at; reason = Misplaced })
      | Some x ↦ at_place at (closed_value x.0 (fresh_value x.0 e))
          then (λ child. read (at + 1) (with_child value e child) x.1 rest)
    ]
read at value content (full e inner rest) =
    elim (next_child content e) [
      | None ↦ Err (record { at = at; reason = Misplaced })
      | Some x ↦ read (at + 1) (fresh_value x.0 e) (start x.0) inner then
          (λ p. at_place p.1 (closed_value x.0 p.0) then (λ child. read (p.1 + 1) (with_child value e child) x.1 rest))
    ]

abbrev pub read_document : Forest → Result (Value × ℕ) Unread
read_document tree = read 0 (of_draft draft.Document) document tree

abbrev pub parts_from : MessageDraft → Option Header → Option Parts
parts_from m None = None
parts_from m (Some header) = Some (record { header = header; body = m.body; last = m.last })

abbrev pub parts_held : Value → Option Parts
parts_held (of_draft (draft.Message m)) = parts_from m m.header
parts_held other = None

-- the texts of a document's tree give the parts of a message
abbrev pub ReadsAs : Forest → Parts → Type 0
ReadsAs tree parts = (value : Value) × (at : ℕ) × (read_document tree ≡ Ok (value, at)) × (parts_held value ≡ Some parts)

-- the tokens spell a message with these parts
abbrev pub SpellsParts : List Token → Parts → Type 0
SpellsParts tokens parts = (tree : Forest) × HasShape tokens tree × ReadsAs tree parts
