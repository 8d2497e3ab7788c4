use Rattle.std.proofs.Common.{◌≡◌, length}
use Rattle.engine_bench.proofs.commands.replaces.Given as goal

abbrev pub invariant-loop-leaf : goal.invariant-loop-leaf
invariant-loop-leaf l = length l.members ≡ l.leaf
