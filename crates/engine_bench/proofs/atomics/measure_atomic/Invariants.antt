use Rattle.dm_atomic.specs.Engine.{IsSoundEngine}
use Rattle.engine_bench.proofs.atomics.measure_atomic.Given as goal

abbrev pub invariant-loop : goal.invariant-loop
invariant-loop l = IsSoundEngine l.device.engine
