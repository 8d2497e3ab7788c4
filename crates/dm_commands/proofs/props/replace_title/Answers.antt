use Rattle.std.proofs.Common.{◌∙◌, ap}
use Rattle.std.specs.FinMap.{insert}
use Rattle.dm_tree.specs.declared.nodes.Node.{Node}
use Rattle.dm_tree.specs.Nodes.{changed, with_title}
use Rattle.dm_tree.specs.Rows.{nodes, ids, node_of, path_of}
use Rattle.dm_commands.specs.Outcomes.{asked_by, changed_to, node_at}
use Rattle.dm_commands.specs.Promises.{none_moved}
use Rattle.dm_commands.specs.Table.{title_refusals}
use Rattle.dm_commands.proofs.Endings.{refused-ends, passed-ends, ends-changed, put-at}
use Rattle.dm_commands.proofs.Numbers.{kept-same}
use Rattle.dm_commands.proofs.props.replace_title.Goals as goal

pub returns-in-Err-clause-ok : goal.returns-in-Err-clause-ok
returns-in-Err-clause-ok c =
    let before = c.args.tree.now in
    let uri = c.args.uri.now in
    refused-ends (title_refusals (asked_by c.args.caller.now before.clock) (nodes before.rows) c.args.step.now uri)
    (changed_to (insert (nodes before.rows) uri.path
    (changed before.clock (with_title (node_at (nodes before.rows) uri.path) c.args.step.now.value))))
    c.in-Err.code none_moved c.args.journal.now before
    c.refuse.result c.in-Err.ensures.judged (c.refuse.ensures none_moved)

pub returns-clause-ok : goal.returns-clause-ok
returns-clause-ok c =
    let before = c.args.tree.now in
    let now = c.put_title.new.tree in
    let uri = c.args.uri.now in
    let place = c.in-Ok.ensures.place in
    let after = insert (nodes before.rows) uri.path
    (changed before.clock (with_title (node_at (nodes before.rows) uri.path) c.args.step.now.value)) in
    passed-ends (title_refusals (asked_by c.args.caller.now before.clock) (nodes before.rows) c.args.step.now uri)
    (nodes before.rows) (changed_to after) none_moved c.args.journal.now before
    c.put_title.new.journal now c.of_code.result c.in-Ok.ensures.judged
    (ends-changed after none_moved c.args.journal.now before
    c.put_title.new.journal now c.of_code.result c.of_code.ensures
    (c.in_ok-put_title.ensures.nodes
    ∙ ap (λ t. insert (nodes before.rows) (path_of before.rows c.in-Ok.id)
    (changed before.clock (with_title (node_of before.rows c.in-Ok.id) t))) c.in_ok-title.ensures
    ∙ put-at (nodes before.rows) uri.path (path_of before.rows c.in-Ok.id)
    (λ (n : Node). changed before.clock (with_title n c.args.step.now.value)) (node_of before.rows c.in-Ok.id)
    place.0.path place.1)
    (kept-same (ids before.rows) (ids now.rows) c.in_ok-put_title.ensures.ids)
    c.in_ok-put_title.ensures.notes c.in_ok-put_title.ensures.clock)
