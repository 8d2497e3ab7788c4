use Rattle.std.proofs.Common.{length}
use Rattle.dm_tree.specs.Rows.{path_of}
use Rattle.dm_ddf.proofs.conforming.+rule_for.Given as goal

-- the names above
abbrev pub decreases-rule_for : goal.decreases-rule_for
decreases-rule_for l = length (path_of l.tree.now.rows l.id)
