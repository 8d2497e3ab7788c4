use Rattle.std.proofs.Common.{◌≡◌, drop, length}
use Rattle.dm_atomic.specs.Run.{run_all}
use Rattle.dm_atomic.specs.Engine.{state_of, running}
use Rattle.dm_atomic.proofs.Giving.{IsGiving}
use Rattle.dm_session.specs.Frames.{KeepsBut}
use Rattle.dm_session.specs.Stays.{body_covers}
use Rattle.dm_session.proofs.executing.run_all.Given as goal

abbrev pub invariant-loop-place : goal.invariant-loop-place
invariant-loop-place l = record {
  giving : IsGiving
      (run_all (running l.fn.engine l.caller) l.origin (state_of l.engine) (drop l.place l.fn.body))
      (run_all (running l.fn.engine l.caller) l.origin (state_of l.fn.engine) l.fn.body) l.fn.out l.out;
  left : drop l.place l.body ≡ drop l.place l.fn.body;
  long : length l.body ≡ length l.fn.body;
  keeps : KeepsBut (body_covers l.fn.body) l.fn.engine l.engine;
}
