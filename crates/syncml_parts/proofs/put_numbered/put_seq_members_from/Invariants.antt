use Rattle.std.proofs.Common.{◌≡◌, ◌+◌, drop}
use Rattle.wbxml_tokens.specs.Spelling.{given}
use Rattle.syncml_types.specs.Canonical.{seq_members_tokens}
use Rattle.syncml_parts.specs.Numbering.{numbered_seq_members, ids_in_seq_members}
use Rattle.syncml_parts.proofs.put_numbered.put_seq_members_from.Given as goal

abbrev pub invariant-loop-member : goal.invariant-loop-member
invariant-loop-member g l =
    (l.id + ids_in_seq_members (drop l.member-index l.member-items) ≡ l.fn.first + ids_in_seq_members l.member-items)
    × (given g.W.Writer.after l.fn.w (seq_members_tokens (numbered_seq_members l.fn.first l.member-items))
    ≡ given g.W.Writer.after l.w (seq_members_tokens (numbered_seq_members l.id (drop l.member-index l.member-items))))
