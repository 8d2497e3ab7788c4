-- What the forms of fields and their values say together.
use Rattle.std.specs.Prelude.{◌≡◌, ℕ, List, Some, is_some}
use Rattle.hex.specs.Hex.{IsBytes}
use Rattle.dm_base.specs.Fields.{is_hex, hex_of, hex_text, is_nonce, challenge_of, is_num, num_of}

-- a text is a HEX exactly where it stands for bytes
abbrev pub HexHasBytes : Type 0
HexHasBytes = (text : List ℕ) → is_hex text ≡ is_some (hex_of text)

-- a text is a NONCE exactly where it stands for one
abbrev pub NonceHasBytes : Type 0
NonceHasBytes = (text : List ℕ) → is_nonce text ≡ is_some (challenge_of text)

-- a text is a NUM exactly where it has a number
abbrev pub NumHasNumber : Type 0
NumHasNumber = (text : List ℕ) → is_num text ≡ is_some (num_of text)

-- the HEX that is written of bytes stands for them
abbrev pub HexIsReadAgain : Type 0
HexIsReadAgain = (bytes : List ℕ) → IsBytes bytes → hex_of (hex_text bytes) ≡ Some bytes
