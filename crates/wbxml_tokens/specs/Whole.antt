-- When a document is whole: its tokens are one element.
use Rattle.std.specs.Prelude.{◌≡◌, ◌↔◌, ◌⊎◌, ℕ, true, false, List, [], ◌∷◌, ◌++◌, length, map, None, Some}
use Rattle.wbxml_ints.specs.Multibyte.{AreBytes}
use Rattle.wbxml_tables.specs.declared.Element.{Element}
use Rattle.wbxml_tokens.specs.declared.reason.Reason.TheVariants as reasons
use Rattle.wbxml_tokens.specs.declared.token.Token.{Token}
use Rattle.wbxml_tokens.specs.declared.token.Token.TheVariants.{Tag, End, Text, Opaque}
use Rattle.wbxml_tokens.specs.declared.token.Placed.{Placed}
use Rattle.wbxml_tokens.specs.declared.extent.Extent.{Extent}
use Rattle.wbxml_tokens.specs.declared.extent.Extent.TheVariants as extents
use Rattle.wbxml_tokens.specs.Reading.{extent_after, reading, refusal_of}

-- what may stand between a tag and its END: texts, opaques and elements, in any number and order
pub data IsContent : List Token → Type 0 where
  nothing : IsContent []
  with_text : {later : List Token} (text : List ℕ) → IsContent later → IsContent (Text text ∷ later)
  with_opaque : {later : List Token} (bytes : List ℕ) → IsContent later → IsContent (Opaque bytes ∷ later)
  with_tag : {later : List Token} (e : Element) → IsContent later → IsContent (Tag e false ∷ later)
  with_element : {content later tokens : List Token} (e : Element) → IsContent content → IsContent later
      → tokens ≡ Tag e true ∷ content ++ End ∷ later
      → IsContent tokens

-- one element: a tag alone, or a tag, its content and END
abbrev pub IsElement : List Token → Type 0
IsElement tokens =
    (e : Element) × ((tokens ≡ Tag e false ∷ [])
    ⊎ ((content : List Token) × (tokens ≡ Tag e true ∷ content ++ End ∷ []) × IsContent content))

-- how far the one element has come behind tokens
abbrev pub extent_behind : Extent → List Token → Extent
extent_behind extent [] = extent
extent_behind extent (t ∷ tokens) = extent_behind (extent_after extent t) tokens

-- Tokens are one element exactly where the extent is Whole behind all of them, and behind no fewer.
abbrev pub ElementIsWhole : Type 0
ElementIsWhole =
    (tokens : List Token) → IsElement tokens ↔ ((extent_behind extents.Before tokens ≡ extents.Whole)
    × ((first later : List Token) → tokens ≡ first ++ later → extent_behind extents.Before first ≡ extents.Whole
    → later ≡ []))

-- the tokens that are read of bytes, without their places
abbrev pub tokens_read : List ℕ → List Token
tokens_read bytes = map (λ (p : Placed). p.token) (reading bytes).tokens

-- Bytes are a whole document exactly where none is refused, and all tokens together are one element.
abbrev pub DocumentIsElement : Type 0
DocumentIsElement =
    (bytes : List ℕ) → (refusal_of bytes ≡ None) ↔ (((reading bytes).refused ≡ None) × IsElement (tokens_read bytes))

-- Bytes are told as truncated exactly where none is refused and the tokens are no element, and then at their length.
abbrev pub CutIsTruncated : Type 0
CutIsTruncated =
    (bytes : List ℕ) (at : ℕ) → AreBytes bytes
    → (refusal_of bytes ≡ Some (record { at = at; reason = reasons.Truncated }))
    ↔ (((reading bytes).refused ≡ None) × (IsElement (tokens_read bytes) → ⊥) × (at ≡ length bytes))
