use Rattle.std.proofs.Common.{◌≡◌, drop, length}
use Rattle.dm_atomic.specs.Engine.{state_of, running, IsSoundEngine, Only}
use Rattle.dm_atomic.specs.Marks.{whole_of, Holds}
use Rattle.dm_atomic.specs.Stays.{tasks_cover, StayBut}
use Rattle.dm_atomic.proofs.Tried.{IsTrying}
use Rattle.dm_atomic.proofs.engine.Engine.try_all.Given as goal

abbrev pub invariant-loop-place : goal.invariant-loop-place
invariant-loop-place l = record {
  trying : IsTrying (running l.fn.self l.caller) (state_of l.fn.self) (state_of l.self) l.fn.tasks
      (drop l.place l.fn.tasks) l.done l.fn.out l.out;
  left : drop l.place l.tasks ≡ drop l.place l.fn.tasks;
  long : length l.tasks ≡ length l.fn.tasks;
  only : Only l.fn.self l.self;
  ids : StayBut (tasks_cover l.fn.tasks) (whole_of l.fn.self) (whole_of l.self);
  marks : Holds l.fn.self l.self;
  sound : IsSoundEngine l.self;
}
