use Rattle.dm_undo.specs.Sound.{IsSound}
use Rattle.journal_bench.proofs.take_hundreds.Given as goal

abbrev pub invariant-loop : goal.invariant-loop
invariant-loop l = IsSound l.device.journal.entries l.device.tree.rows
