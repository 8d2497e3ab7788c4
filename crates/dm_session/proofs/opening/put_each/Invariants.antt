use Rattle.std.proofs.Common.{◌≡◌, ◌++◌, map, take}
use Rattle.dm_machine.specs.Opening as Spec
use Rattle.dm_session.proofs.opening.put_each.Given as goal

abbrev pub invariant-loop-update : goal.invariant-loop-update
invariant-loop-update l = l.out ≡ l.fn.out ++ map (Spec.result_alert l.node) (take l.update-index l.results)
