use Rattle.dm_undo.specs.Sound.{IsSound}
use Rattle.engine_bench.proofs.bare.edit_all.Given as goal

abbrev pub invariant-loop-path : goal.invariant-loop-path
invariant-loop-path l = IsSound l.journal.entries l.tree.rows
