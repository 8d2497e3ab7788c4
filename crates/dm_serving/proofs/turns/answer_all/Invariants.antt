use Rattle.std.proofs.Common.{◌≡◌}
use Rattle.dm_outside.specs.Doors.{IsEmpty}
use Rattle.dm_outside.specs.Told.{IfTold}
use Rattle.dm_serving.specs.Turns.{door_and_nonces, AllCame}
use Rattle.dm_serving.proofs.turns.answer_all.Given as goal

abbrev pub invariant-loop : goal.invariant-loop
invariant-loop g l = record {
  empty : IsEmpty (g.P.Door.told l.door);
  so_far : IfTold (door_and_nonces (g.P.Door.told l.fn.door) (g.N.Nonces.left l.fn.nonces))
      (door_and_nonces (g.P.Door.told l.door) (g.N.Nonces.left l.nonces))
      (AllCame g.X.Core.machine l.counter l.fn.core l.core);
  faults : g.P.Door.faults l.door ≡ g.P.Door.faults l.fn.door;
}
