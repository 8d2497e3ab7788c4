use Rattle.std.specs.Prelude.{All}
use Rattle.dm_tree.specs.Rows.{IsLive}
use Rattle.tree_bench.proofs.rounds.ids_of.Given as goal

abbrev pub invariant-loop-path : goal.invariant-loop-path
invariant-loop-path l = All (IsLive l.tree.rows) l.found.items
