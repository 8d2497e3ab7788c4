use Rattle.std.proofs.Common.{◌≡◌, drop}
use Rattle.wbxml_tokens.specs.Spelling.{given}
use Rattle.syncml_types.specs.Canonical.{texts_tokens}
use Rattle.syncml_types.proofs.put_value.put_texts.Given as goal

abbrev pub invariant-loop-text : goal.invariant-loop-text
invariant-loop-text g l =
    given g.W.Writer.after l.fn.w (texts_tokens l.element l.text-items)
    ≡ given g.W.Writer.after l.w (texts_tokens l.element (drop l.text-index l.text-items))
