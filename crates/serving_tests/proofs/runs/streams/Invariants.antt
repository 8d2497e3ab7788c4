use Rattle.dm_outside.specs.Streams.{AreUntouched}
use Rattle.serving_tests.proofs.runs.streams.Given as goal

abbrev pub invariant-loop-each : goal.invariant-loop-each
invariant-loop-each l = AreUntouched l.conns
