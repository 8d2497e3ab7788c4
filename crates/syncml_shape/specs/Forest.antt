-- Trees of elements, and the tokens that spell them.
use Rattle.std.specs.Prelude.{ℕ, true, false, List, [], ◌∷◌, ◌++◌}
use Rattle.wbxml_tables.specs.declared.Element.{Element}
use Rattle.wbxml_tokens.specs.declared.token.Token.{Token}
use Rattle.wbxml_tokens.specs.declared.token.Token.TheVariants.{Tag, End, Text, Opaque}

-- What stands in an element: pieces of text and elements, each with what follows it. An element is spelled by its tag
-- with the content bit, its content and END, or bare, by its tag alone.
pub data Forest : Type 0 where
  nothing : Forest
  text : List ℕ → Forest → Forest
  opaque : List ℕ → Forest → Forest
  bare : Element → Forest → Forest
  full : Element → Forest → Forest → Forest

abbrev pub spelling : Forest → List Token
spelling nothing = []
spelling (text bytes rest) = Text bytes ∷ spelling rest
spelling (opaque bytes rest) = Opaque bytes ∷ spelling rest
spelling (bare e rest) = Tag e false ∷ spelling rest
spelling (full e content rest) = Tag e true ∷ (spelling content ++ End ∷ spelling rest)
