use Rattle.std.proofs.Common.{◌≡◌, take}
use Rattle.syncml_types.proofs.copies.copy_seq_members.Given as goal

abbrev pub invariant-loop-member : goal.invariant-loop-member
invariant-loop-member l = l.copied ≡ take l.member-index l.member-items
