-- What elements without children hold.
use Rattle.std.specs.Prelude.{ℕ, ◌&&◌, if◌then◌else◌, nat_le, List, [], ◌++◌, Option, Some, None, Result, Ok, Err}
use Rattle.wbxml_tokens.specs.declared.reason.Reason.{Reason}
use Rattle.wbxml_tokens.specs.declared.reason.Reason.TheVariants as reasons
use Rattle.syncml_shape.specs.declared.rows.Kind.{Kind}
use Rattle.syncml_shape.specs.declared.rows.Kind.TheVariants as kinds
use Rattle.syncml_types.specs.Canonical.{is_text}
use Rattle.syncml_grammar.specs.declared.digits.Digits.TheVariants.{Start}
use Rattle.syncml_grammar.specs.declared.leaf.Leaf.{Leaf}
use Rattle.syncml_grammar.specs.declared.leaf.Leaf.TheVariants as leaf
use Rattle.syncml_grammar.specs.declared.leaf.Simple.{Simple}
use Rattle.syncml_grammar.specs.declared.leaf.Simple.TheVariants as simple
use Rattle.syncml_grammar.specs.Numbers.{digits_after, number_in}

-- before the first piece
abbrev pub fresh_leaf : Kind → Leaf
fresh_leaf kinds.Id = leaf.Number Start
fresh_leaf kinds.Code = leaf.Number Start
fresh_leaf kinds.Size = leaf.Number Start
fresh_leaf kinds.Flag = leaf.Flag
fresh_leaf other = leaf.Text []

-- with one more piece of text
abbrev pub with_piece : Leaf → List ℕ → Leaf
with_piece (leaf.Text text) bytes = leaf.Text (text ++ bytes)
with_piece (leaf.Number digits) bytes = leaf.Number (digits_after digits bytes)
with_piece leaf.Flag bytes = leaf.Flag

-- Data holds any bytes, and a text is UTF-8 without byte 00
abbrev pub closed_text : Kind → List ℕ → Result Simple Reason
closed_text kinds.Bytes text = Ok (simple.Text text)
closed_text other text = if is_text text then Ok (simple.Text text) else Err reasons.Text

-- a number of 32 bits, not below the least that is allowed
abbrev pub short_number : ℕ → ℕ → Result Simple Reason
short_number least n = if nat_le least n && nat_le n 4294967295 then Ok (simple.Short n) else Err reasons.Number

abbrev pub ranged : Kind → ℕ → Result Simple Reason
ranged kinds.Size n = Ok (simple.Long n)
ranged kinds.Id n = short_number 1 n
ranged other n = short_number 0 n

abbrev pub closed_number : Kind → Option ℕ → Result Simple Reason
closed_number kind None = Err reasons.Number
closed_number kind (Some n) = ranged kind n

-- what its text reads as at its end
abbrev pub closed_leaf : Kind → Leaf → Result Simple Reason
closed_leaf kind (leaf.Text text) = closed_text kind text
closed_leaf kind (leaf.Number digits) = closed_number kind (number_in digits)
closed_leaf kind leaf.Flag = Ok simple.Flag
