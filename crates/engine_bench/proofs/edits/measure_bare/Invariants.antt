use Rattle.dm_undo.specs.Sound.{IsSound}
use Rattle.engine_bench.proofs.edits.measure_bare.Given as goal

abbrev pub invariant-loop : goal.invariant-loop
invariant-loop l = IsSound l.bare.journal.entries l.bare.tree.rows
