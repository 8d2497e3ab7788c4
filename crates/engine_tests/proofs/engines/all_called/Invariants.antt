use Rattle.dm_atomic.specs.Engine.{IsSoundEngine}
use Rattle.dm_atomic.specs.Marks.{Holds}
use Rattle.engine_tests.proofs.engines.all_called.Given as goal

abbrev pub invariant-loop-place : goal.invariant-loop-place
invariant-loop-place l = record { marks : Holds l.fn.engine l.engine; sound : IsSoundEngine l.engine }
