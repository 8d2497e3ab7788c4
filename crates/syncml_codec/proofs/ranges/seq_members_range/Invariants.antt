use Rattle.std.proofs.Common.{take}
use Rattle.std.specs.List.{AllByRecursion}
use Rattle.syncml_codec.specs.Ranges.{SeqMemberRange}
use Rattle.syncml_codec.proofs.ranges.seq_members_range.Given as goal

abbrev pub invariant-loop-member : goal.invariant-loop-member
invariant-loop-member l = AllByRecursion SeqMemberRange (take l.member-index l.members)
