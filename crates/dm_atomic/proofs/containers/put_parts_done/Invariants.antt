use Rattle.std.proofs.Common.{drop}
use Rattle.dm_atomic.specs.Run.{parts_done}
use Rattle.dm_atomic.proofs.Telling.{IsTelling}
use Rattle.dm_atomic.proofs.containers.put_parts_done.Given as goal

abbrev pub invariant-loop-part : goal.invariant-loop-part
invariant-loop-part l = IsTelling l.fn.out l.out (parts_done (drop l.part-index l.parts)) (parts_done l.parts)
