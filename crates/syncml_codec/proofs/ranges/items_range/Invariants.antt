use Rattle.std.proofs.Common.{take}
use Rattle.std.specs.List.{AllByRecursion}
use Rattle.syncml_codec.specs.Ranges.{ItemRange}
use Rattle.syncml_codec.proofs.ranges.items_range.Given as goal

abbrev pub invariant-loop-item : goal.invariant-loop-item
invariant-loop-item l = AllByRecursion ItemRange (take l.item-index l.items)
