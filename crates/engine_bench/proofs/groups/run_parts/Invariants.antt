use Rattle.dm_atomic.specs.Engine.{IsSoundEngine}
use Rattle.engine_bench.proofs.groups.run_parts.Given as goal

abbrev pub invariant-loop-place : goal.invariant-loop-place
invariant-loop-place l = IsSoundEngine l.device.engine
