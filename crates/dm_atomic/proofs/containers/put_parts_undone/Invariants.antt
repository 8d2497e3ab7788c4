use Rattle.std.proofs.Common.{drop}
use Rattle.dm_atomic.specs.Run.{parts_undone}
use Rattle.dm_atomic.proofs.Telling.{IsTelling}
use Rattle.dm_atomic.proofs.containers.put_parts_undone.Given as goal

abbrev pub invariant-loop-part : goal.invariant-loop-part
invariant-loop-part l = IsTelling l.fn.out l.out (parts_undone (drop l.part-index l.parts)) (parts_undone l.parts)
