-- Which trees and which tokens the grammar has.
use Rattle.std.specs.Prelude.{◌≡◌, Bool, false, ◌&&◌, List, ◌++◌, Some, None, IsTrue}
use Rattle.wbxml_tokens.specs.declared.token.Token.{Token}
use Rattle.syncml_shape.specs.Forest.{Forest, nothing, text, opaque, bare, full, spelling}
use Rattle.syncml_shape.specs.Rows.{Content, document, start, next_child, is_complete, takes_text}

-- Whether what stands in an element is what may come there, and all that is required.
abbrev pub fits : Content → Forest → Bool
fits content nothing = is_complete content
fits content (text bytes rest) = takes_text content && fits content rest
fits content (opaque bytes rest) = takes_text content && fits content rest
fits content (bare e rest) =
    elim (next_child content e) [ None ↦ false | Some x ↦ is_complete (start x.0) && fits x.1 rest ]
fits content (full e inner rest) =
    elim (next_child content e) [ None ↦ false | Some x ↦ fits (start x.0) inner && fits x.1 rest ]

-- the tokens of a whole document, and its tree
pub record HasShape (tokens : List Token) (tree : Forest) : Type 0 where
  pub spelled : tokens ≡ spelling tree
  pub fitting : IsTrue (fits document tree)

-- the tokens begin a document
abbrev pub IsViable : List Token → Type 0
IsViable tokens = (more : List Token) × (tree : Forest) × HasShape (tokens ++ more) tree
