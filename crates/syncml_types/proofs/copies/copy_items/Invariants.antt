use Rattle.std.proofs.Common.{◌≡◌, take}
use Rattle.syncml_types.proofs.copies.copy_items.Given as goal

abbrev pub invariant-loop-item : goal.invariant-loop-item
invariant-loop-item l = l.copied ≡ take l.item-index l.item-items
