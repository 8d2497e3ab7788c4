use Rattle.std.proofs.Common.{◌≡◌, ◌+◌, drop}
use Rattle.wbxml_tokens.specs.Spelling.{given}
use Rattle.syncml_types.specs.Canonical.{members_tokens}
use Rattle.syncml_parts.specs.Numbering.{numbered_members}
use Rattle.syncml_parts.proofs.put_numbered.put_members_from.Given as goal

abbrev pub invariant-loop-member : goal.invariant-loop-member
invariant-loop-member g l =
    (l.id ≡ l.fn.first + l.member-index)
    × (given g.W.Writer.after l.fn.w (members_tokens (numbered_members l.fn.first l.member-items))
    ≡ given g.W.Writer.after l.w (members_tokens (numbered_members l.id (drop l.member-index l.member-items))))
