use Rattle.std.proofs.Common.{◌≡◌, ◌++◌, map}
use Rattle.dm_atomic.specs.Made.{Result, told}
use Rattle.dm_atomic.proofs.entries.put_own_results.Given as goal

abbrev pub invariant-loop-value : goal.invariant-loop-value
invariant-loop-value l = l.out ≡ l.fn.out ++ told (map (Result l.post) l.yielded)
