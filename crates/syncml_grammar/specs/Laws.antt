-- What tokens, trees and messages have to do with each other.
use Rattle.std.specs.Prelude.{◌≡◌, ◌≤◌, ℕ, Some, Ok, IsTrue}
use Rattle.dm_base.specs.Limits.{text_limit}
use Rattle.syncml_shape.specs.Forest.{Forest, spelling}
use Rattle.syncml_shape.specs.Rows.{document}
use Rattle.syncml_shape.specs.Shape.{fits}
use Rattle.syncml_types.specs.Message.{Parts}
use Rattle.syncml_types.specs.Fitness.{IsFit}
use Rattle.syncml_grammar.specs.Values.{Value}
use Rattle.syncml_grammar.specs.Reads.{read_document, parts_held}
use Rattle.syncml_grammar.specs.Building.{text_length}

-- a document whose texts read, and aren't too long, gives a message, and it is fit
abbrev pub ReadIsFit : Type 0
ReadIsFit =
    (tree : Forest) (value : Value) (at : ℕ)
    → IsTrue (fits document tree) → read_document tree ≡ Ok (value, at) → text_length (spelling tree) ≤ text_limit
    → (parts : Parts) × (parts_held value ≡ Some parts) × IsFit parts.header parts.body
