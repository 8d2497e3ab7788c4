use Rattle.dm_undo.specs.Sound.{IsSound}
use Rattle.journal_bench.proofs.turns.Device.add_kept.Given as goal

abbrev pub invariant-loop-leaf : goal.invariant-loop-leaf
invariant-loop-leaf l = IsSound l.self.journal.entries l.self.tree.rows
