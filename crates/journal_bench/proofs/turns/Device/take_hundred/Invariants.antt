use Rattle.dm_undo.specs.Sound.{IsSound}
use Rattle.journal_bench.proofs.turns.Device.take_hundred.Given as goal

abbrev pub invariant-loop : goal.invariant-loop
invariant-loop l = IsSound l.self.journal.entries l.self.tree.rows
