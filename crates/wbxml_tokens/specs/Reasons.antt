-- The words of the reasons.
use Rattle.std.specs.Prelude.{ℕ, List, codes}
use Rattle.wbxml_tokens.specs.declared.reason.Reason.{Reason}
use Rattle.wbxml_tokens.specs.declared.reason.Reason.TheVariants as reasons

-- the word of a reason
abbrev pub word_of : Reason → List ℕ
word_of reasons.Truncated = codes "truncated"
word_of reasons.Toolong = codes "toolong"
word_of reasons.Version = codes "version"
word_of reasons.Publicid = codes "publicid"
word_of reasons.Charset = codes "charset"
word_of reasons.Integer = codes "integer"
word_of reasons.Index = codes "index"
word_of reasons.Token = codes "token"
word_of reasons.Tag = codes "tag"
word_of reasons.Leftout = codes "leftout"
word_of reasons.Nested = codes "nested"
word_of reasons.Misplaced = codes "misplaced"
word_of reasons.Text = codes "text"
word_of reasons.Number = codes "number"
word_of reasons.Trailing = codes "trailing"
