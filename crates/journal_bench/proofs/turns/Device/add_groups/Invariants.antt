use Rattle.dm_undo.specs.Sound.{IsSound}
use Rattle.journal_bench.proofs.turns.Device.add_groups.Given as goal

abbrev pub invariant-loop-group : goal.invariant-loop-group
invariant-loop-group l = IsSound l.self.journal.entries l.self.tree.rows
