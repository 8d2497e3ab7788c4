use Rattle.std.proofs.Common.{drop, map}
use Rattle.dm_atomic.specs.Made.{Result}
use Rattle.dm_atomic.proofs.Telling.{IsTelling}
use Rattle.dm_atomic.proofs.entries.put_results.Given as goal

abbrev pub invariant-loop-found : goal.invariant-loop-found
invariant-loop-found l =
    IsTelling l.fn.out l.out (map (Result l.post) (drop l.found-index l.fn.found)) (map (Result l.post) l.fn.found)
