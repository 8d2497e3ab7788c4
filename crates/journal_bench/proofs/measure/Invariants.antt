use Rattle.dm_undo.specs.Sound.{IsSound}
use Rattle.journal_bench.proofs.measure.Given as goal

abbrev pub invariant-loop-number : goal.invariant-loop-number
invariant-loop-number l = IsSound l.device.journal.entries l.device.tree.rows
