use Rattle.dm_tree.specs.Rows.{nodes}
use Rattle.dm_start.specs.TreeText.{tree_text}
use Rattle.dm_device.proofs.Putting.{last_put}
use Rattle.dm_device.proofs.lines.put_last.Goals as goal

pub returns-in-Ok-clause-bytes : goal.returns-in-Ok-clause-bytes
returns-in-Ok-clause-bytes g c =
    last_put _ _ _ (tree_text c.args.version (nodes c.args.tree.now.rows)) c.put_text.result c.in-Ok.ensures.bytes
    c.put_text.ensures.bytes
