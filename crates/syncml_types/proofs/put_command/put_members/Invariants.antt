use Rattle.std.proofs.Common.{◌≡◌, drop}
use Rattle.wbxml_tokens.specs.Spelling.{given}
use Rattle.syncml_types.specs.Canonical.{members_tokens}
use Rattle.syncml_types.proofs.put_command.put_members.Given as goal

abbrev pub invariant-loop-member : goal.invariant-loop-member
invariant-loop-member g l =
    given g.W.Writer.after l.fn.w (members_tokens l.member-items)
    ≡ given g.W.Writer.after l.w (members_tokens (drop l.member-index l.member-items))
