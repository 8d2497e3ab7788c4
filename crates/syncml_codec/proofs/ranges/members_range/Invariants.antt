use Rattle.std.proofs.Common.{take}
use Rattle.std.specs.List.{AllByRecursion}
use Rattle.syncml_codec.specs.Ranges.{MemberRange}
use Rattle.syncml_codec.proofs.ranges.members_range.Given as goal

abbrev pub invariant-loop-member : goal.invariant-loop-member
invariant-loop-member l = AllByRecursion MemberRange (take l.member-index l.members)
