use Rattle.std.proofs.Common.{◌≡◌, ◌+◌, ◌++◌, length, take, drop}
use Rattle.syncml_parts.specs.Numbering.{numbered_members, ids_in_seq_members}
use Rattle.syncml_parts.proofs.numbering.set_members_ids.Given as goal

abbrev pub invariant-loop-at : goal.invariant-loop-at
invariant-loop-at l =
    (l.id ≡ l.first + l.at)
    × (length l.members ≡ length l.fn.members)
    × (take l.at l.members ++ numbered_members l.id (drop l.at l.members) ≡ numbered_members l.first l.fn.members)
