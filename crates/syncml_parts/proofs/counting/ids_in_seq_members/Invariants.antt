use Rattle.std.proofs.Common.{◌≡◌, ◌+◌, drop}
use Rattle.syncml_parts.specs.Numbering as Spec
use Rattle.syncml_parts.proofs.counting.ids_in_seq_members.Given as goal

abbrev pub invariant-loop-member : goal.invariant-loop-member
invariant-loop-member l =
    l.count + Spec.ids_in_seq_members (drop l.member-index l.members) ≡ Spec.ids_in_seq_members l.fn.members
