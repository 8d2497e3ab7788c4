use Rattle.std.proofs.Common.{◌≡◌}
use Rattle.tree_bench.proofs.measure.measure_calls.Given as goal

abbrev pub invariant-loop : goal.invariant-loop
invariant-loop l = l.tree ≡ l.fn.tree
