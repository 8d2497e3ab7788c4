use Rattle.dm_tree.specs.Nodes.{is_below}
use Rattle.dm_tree.specs.Rows.{nodes}
use Rattle.dm_commands.specs.Outcomes.{asked_by, changed_to}
use Rattle.dm_commands.specs.Table.{name_refusals, renamed_at}
use Rattle.dm_commands.proofs.Endings.{refused-ends}
use Rattle.dm_commands.proofs.names.replace_name.Goals as goal

pub returns-in-Ok-Err-clause-ok : goal.returns-in-Ok-Err-clause-ok
returns-in-Ok-Err-clause-ok c =
    let before = c.args.tree.now in
    let step = c.args.step.now in
    let uri = c.args.uri.now in
    let asked = asked_by c.args.caller.now before.clock in
    refused-ends (name_refusals asked (nodes before.rows) step uri)
    (changed_to (renamed_at asked (nodes before.rows) uri.path step.value))
    c.in-Ok-Err.code (is_below uri.path) c.args.journal.now before c.refuse.result
    (rw c.in-Ok-Err.field-0-is at c.in-Ok-Err.ensures.judged) (c.refuse.ensures (is_below uri.path))
