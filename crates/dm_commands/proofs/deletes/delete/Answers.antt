use Rattle.std.proofs.Common.{◌∙◌, ap}
use Rattle.dm_tree.specs.Nodes.{is_below}
use Rattle.dm_tree.specs.Rows.{nodes, ids}
use Rattle.dm_tree.specs.Edits.{pruned}
use Rattle.dm_commands.specs.Outcomes.{asked_by, changed_to}
use Rattle.dm_commands.specs.Table.{delete_refusals}
use Rattle.dm_commands.proofs.Endings.{refused-ends, passed-ends, ends-changed}
use Rattle.dm_commands.proofs.Numbers.{kept-pruned}
use Rattle.dm_commands.proofs.deletes.delete.Goals as goal

pub returns-in-Err-clause-ok : goal.returns-in-Err-clause-ok
returns-in-Err-clause-ok c =
    let before = c.args.tree.now in
    let uri = c.args.uri.now in
    refused-ends (delete_refusals (asked_by c.args.caller.now before.clock) (nodes before.rows) uri)
    (changed_to (pruned (nodes before.rows) uri.path)) c.in-Err.code (is_below uri.path) c.args.journal.now before
    c.refuse.result c.in-Err.ensures.judged (c.refuse.ensures (is_below uri.path))

pub returns-clause-ok : goal.returns-clause-ok
returns-clause-ok c =
    let before = c.args.tree.now in
    let now = c.take_out.new.tree in
    let uri = c.args.uri.now in
    let is = c.in-Ok.ensures.place.0.path in
    passed-ends (delete_refusals (asked_by c.args.caller.now before.clock) (nodes before.rows) uri) (nodes before.rows)
    (changed_to (pruned (nodes before.rows) uri.path)) (is_below uri.path) c.args.journal.now before
    c.take_out.new.journal now c.of_code.result c.in-Ok.ensures.judged
    (ends-changed (pruned (nodes before.rows) uri.path) (is_below uri.path) c.args.journal.now before
    c.take_out.new.journal now c.of_code.result c.of_code.ensures
    (c.in_ok-take_out.ensures.nodes ∙ ap (λ p. pruned (nodes before.rows) p) is)
    (kept-pruned (ids before.rows) (ids now.rows) uri.path
    (c.in_ok-take_out.ensures.ids ∙ ap (λ p. pruned (ids before.rows) p) is))
    c.in_ok-take_out.ensures.notes c.in_ok-take_out.ensures.clock)
