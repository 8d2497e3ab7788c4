-- Lines that several commands write.
use Rattle.std.specs.Prelude.{ℕ, List, ◌++◌, codes}
use Rattle.std.specs.Fmt.{decimal}
use Rattle.wbxml_tokens.specs.declared.reason.Refusal.{Refusal}
use Rattle.wbxml_tokens.specs.Reasons.{word_of}
use Rattle.dm_base.specs.declared.lines.LineReason.{LineReason}
use Rattle.dm_base.specs.declared.lines.LineReason.TheVariants as reason
use Rattle.dm_base.specs.Lines.{line_feed}

-- where and why bytes are no message
abbrev pub refused_line : Refusal → List ℕ
refused_line refusal = codes "refused " ++ decimal refusal.at ++ codes " " ++ word_of refusal.reason

abbrev pub reason_word : LineReason → List ℕ
reason_word reason.Cut = codes "cut"
reason_word reason.Long = codes "long"
reason_word reason.Word = codes "word"
reason_word reason.Fields = codes "fields"
reason_word reason.Account = codes "account"
reason_word reason.Tree = codes "tree"
reason_word reason.Extra = codes "extra"
reason_word reason.Message = codes "message"

-- which line of a text is refused, and why
abbrev pub bad_line : ℕ → LineReason → List ℕ
bad_line n why = codes "bad " ++ decimal n ++ codes " " ++ reason_word why ++ line_feed
