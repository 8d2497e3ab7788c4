-- What may still come in the open elements, and what a token does to it, whatever the elements are called.
use Rattle.std.specs.Prelude.{◌≡◌, Bool, true, false, if◌then◌else◌, List, [], ◌∷◌, ◌++◌, Option, Some, None, IsTrue, ⊤}
use Rattle.wbxml_tokens.specs.declared.token.Token.{Token}
use Rattle.wbxml_tokens.specs.declared.token.Token.TheVariants.{Tag, End, Text, Opaque}
use Rattle.syncml_shape.specs.declared.rows.Kind.{Kind}
use Rattle.syncml_shape.specs.Forest.{Forest, spelling}
use Rattle.syncml_shape.specs.Rows.{Content, start, next_child, is_complete, takes_text}
use Rattle.syncml_shape.specs.Shape.{fits}

-- of each open element, the innermost first, and last of the document
abbrev pub Open : Type 0
Open = List Content

abbrev pub content_child : Open → Bool → Option (Kind × Content) → Option Open
content_child s content None = None
content_child s true (Some x) = Some (start x.0 ∷ x.1 ∷ s)
content_child s false (Some x) = if is_complete (start x.0) then Some (x.1 ∷ s) else None

-- what is open behind one more token; None where it may not come. END may also end the document itself, once.
abbrev pub content_step : Open → Token → Option Open
content_step [] token = None
content_step (c ∷ s) End = if is_complete c then Some s else None
content_step (c ∷ s) (Text bytes) = if takes_text c then Some (c ∷ s) else None
content_step (c ∷ s) (Opaque bytes) = if takes_text c then Some (c ∷ s) else None
content_step (c ∷ s) (Tag e content) = content_child s content (next_child c e)

abbrev pub then_steps : Option Open → (Open → Option Open) → Option Open
then_steps None f = None
then_steps (Some s) f = f s

abbrev pub steps : Open → List Token → Option Open
steps s [] = Some s
steps s (token ∷ tokens) = then_steps (content_step s token) (λ after. steps after tokens)

-- one tree for each open element, each ended by END
abbrev pub spellings : List Forest → List Token
spellings [] = []
spellings (tree ∷ trees) = spelling tree ++ End ∷ spellings trees

abbrev pub AllFit : Open → List Forest → Type 0
AllFit [] [] = ⊤
AllFit [] (tree ∷ trees) = ⊥
AllFit (c ∷ s) [] = ⊥
AllFit (c ∷ s) (tree ∷ trees) = IsTrue (fits c tree) × AllFit s trees

-- the tokens are trees that fit what is open, one for each, and end it all
pub record Closes (s : Open) (tokens : List Token) : Type 0 where
  pub trees : List Forest
  pub spelled : tokens ≡ spellings trees
  pub fit : AllFit s trees
