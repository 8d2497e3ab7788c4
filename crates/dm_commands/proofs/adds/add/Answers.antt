use Rattle.std.specs.FinMap.{insert}
use Rattle.dm_tree.specs.Rows.{nodes}
use Rattle.dm_commands.specs.Outcomes.{asked_by, changed_to}
use Rattle.dm_commands.specs.Promises.{none_moved}
use Rattle.dm_commands.specs.Table.{add_refusals, added_node}
use Rattle.dm_commands.proofs.Endings.{refused-ends}
use Rattle.dm_commands.proofs.adds.add.Goals as goal

pub returns-in-Err-clause-ok : goal.returns-in-Err-clause-ok
returns-in-Err-clause-ok c =
    let before = c.args.tree.now in
    let step = c.args.step.now in
    refused-ends (add_refusals (asked_by c.args.caller.now before.clock) (nodes before.rows) step c.args.uri)
    (changed_to (insert (nodes before.rows) c.args.uri.path (added_node before.clock step)))
    c.in-Err.code none_moved c.args.journal.now before c.refuse.result c.in-Err.ensures.judged
    (c.refuse.ensures none_moved)
