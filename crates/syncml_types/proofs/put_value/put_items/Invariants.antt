use Rattle.std.proofs.Common.{◌≡◌, drop}
use Rattle.wbxml_tokens.specs.Spelling.{given}
use Rattle.syncml_types.specs.Canonical.{items_tokens}
use Rattle.syncml_types.proofs.put_value.put_items.Given as goal

abbrev pub invariant-loop-item : goal.invariant-loop-item
invariant-loop-item g l =
    given g.W.Writer.after l.fn.w (items_tokens l.item-items)
    ≡ given g.W.Writer.after l.w (items_tokens (drop l.item-index l.item-items))
