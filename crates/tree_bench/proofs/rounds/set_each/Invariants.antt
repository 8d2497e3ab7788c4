use Rattle.std.proofs.Common.{◌≡◌}
use Rattle.tree_bench.proofs.rounds.set_each.Given as goal

abbrev pub invariant-loop-id : goal.invariant-loop-id
invariant-loop-id l = l.tree ≡ l.fn.tree
