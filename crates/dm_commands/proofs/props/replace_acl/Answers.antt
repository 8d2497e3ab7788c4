use Rattle.std.specs.FinMap.{insert}
use Rattle.dm_tree.specs.Nodes.{changed, with_acl}
use Rattle.dm_tree.specs.Rows.{nodes}
use Rattle.dm_commands.specs.Outcomes.{asked_by, changed_to, node_at}
use Rattle.dm_commands.specs.Promises.{none_moved}
use Rattle.dm_commands.specs.Table.{acl_refusals, acl_given}
use Rattle.dm_commands.proofs.Endings.{refused-ends}
use Rattle.dm_commands.proofs.props.replace_acl.Goals as goal

pub returns-in-Ok-Err-clause-ok : goal.returns-in-Ok-Err-clause-ok
returns-in-Ok-Err-clause-ok c =
    let before = c.args.tree.now in
    let step = c.args.step.now in
    let uri = c.args.uri.now in
    refused-ends (acl_refusals (asked_by c.args.caller.now before.clock) (nodes before.rows) step uri)
    (changed_to (insert (nodes before.rows) uri.path
    (changed before.clock (with_acl (node_at (nodes before.rows) uri.path) (acl_given step.value)))))
    c.in-Ok-Err.code none_moved c.args.journal.now before c.refuse.result
    (rw c.in-Ok-Err.field-0-is at c.in-Ok-Err.ensures.judged) (c.refuse.ensures none_moved)
