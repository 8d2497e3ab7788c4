-- What is read digit by digit is decimal text, in whatever pieces it comes.
use Rattle.std.specs.Prelude.{◌≡◌, ℕ, List, ◌++◌}
use Rattle.dm_base.specs.Fields.{num_of}
use Rattle.syncml_grammar.specs.declared.digits.Digits.{Digits}
use Rattle.syncml_grammar.specs.declared.digits.Digits.TheVariants.{Start}
use Rattle.syncml_grammar.specs.Numbers.{digits_after, number_in}

-- bytes that came one by one are a number exactly where their text is one, and the same: digits without a sign or a
-- leading zero, of 64 bits
abbrev pub NumbersAreDecimal : Type 0
NumbersAreDecimal = (text : List ℕ) → number_in (digits_after Start text) ≡ num_of text

-- pieces that come one after the other are one text
abbrev pub PiecesAreText : Type 0
PiecesAreText = (digits : Digits) (a b : List ℕ) → digits_after (digits_after digits a) b ≡ digits_after digits (a ++ b)
