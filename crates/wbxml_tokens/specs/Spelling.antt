-- The canonical spelling of tokens: WBXML 1.3, sections 5.4 to 5.8, with the choices of this profile.
use Rattle.std.specs.Prelude.{◌==◌, ◌+◌, ℕ, Bool, true, if◌then◌else◌, List, [], ◌∷◌, ◌++◌, length}
use Rattle.wbxml_tables.specs.declared.Element.{Element}
use Rattle.wbxml_tables.specs.Tables.{page_of, code_on_page}
use Rattle.wbxml_ints.specs.Multibyte.{shortest}
use Rattle.wbxml_tokens.specs.declared.token.Token.{Token}
use Rattle.wbxml_tokens.specs.declared.token.Token.TheVariants.{Tag, End, Text, Opaque}

-- version 1.3, the public identifier of SyncML 1.2, UTF-8, and a string table of no byte
abbrev pub prologue : List ℕ
prologue = 0x03 ∷ 0xa4 ∷ 0x01 ∷ 0x6a ∷ 0x00 ∷ []

-- the byte of a tag, with the bit that says that content follows
abbrev pub tag_byte : Element → Bool → ℕ
tag_byte e content = if content then code_on_page e + 0x40 else code_on_page e

-- the bytes of a token behind a tag of this page
abbrev pub token_bytes : ℕ → Token → List ℕ
token_bytes page (Tag e content) =
    if page_of e == page then tag_byte e content ∷ [] else 0x00 ∷ page_of e ∷ tag_byte e content ∷ []
token_bytes page End = 0x01 ∷ []
token_bytes page (Text text) = 0x03 ∷ text ++ 0x00 ∷ []
token_bytes page (Opaque bytes) = 0xc3 ∷ shortest (length bytes) ++ bytes

-- the page that a token leaves
abbrev pub page_after : ℕ → Token → ℕ
page_after page (Tag e content) = page_of e
page_after page End = page
page_after page (Text text) = page
page_after page (Opaque bytes) = page

-- the bytes of tokens from a page on
abbrev pub spelled : ℕ → List Token → List ℕ
spelled page [] = []
spelled page (t ∷ ts) = token_bytes page t ++ spelled (page_after page t) ts

-- the page that tokens leave
abbrev pub page_behind : ℕ → List Token → ℕ
page_behind page [] = page
page_behind page (t ∷ ts) = page_behind (page_after page t) ts

-- what a writer has written, and the page of its last tag
pub record WrittenSoFar : Type 0 where
  pub bytes : List ℕ
  pub page : ℕ

-- what it has written after one more token
abbrev pub written_after : WrittenSoFar → Token → WrittenSoFar
written_after w t = record { bytes = w.bytes ++ token_bytes w.page t; page = page_after w.page t }

-- an element whose content is a text
abbrev pub leaf_tokens : Element → List ℕ → List Token
leaf_tokens e text = Tag e true ∷ Text text ∷ End ∷ []

-- what takes tokens is, after all of these
abbrev pub given : {W : Type 0} → (W → Token → W) → W → List Token → W
given after w [] = w
given after w (t ∷ ts) = given after (after w t) ts
