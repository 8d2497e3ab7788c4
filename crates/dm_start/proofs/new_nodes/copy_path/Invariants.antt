use Rattle.std.proofs.Common.{◌≡◌, take}
use Rattle.dm_start.proofs.new_nodes.copy_path.Given as goal

abbrev pub invariant-loop-name : goal.invariant-loop-name
invariant-loop-name l = l.copy ≡ take l.name-index l.name-items
