use Rattle.dm_tree.specs.Rows.{nodes}
use Rattle.dm_commands.proofs.UpdateParts.{none_at_root}
use Rattle.engine_bench.proofs.leaves.bare_tree.Goals as goal

pub returns-in-Ok : goal.returns-in-Ok
returns-in-Ok c = none_at_root (nodes c.in-Ok.tree.rows) c.in_ok-acl.acl c.in-Ok.ensures.nodes
