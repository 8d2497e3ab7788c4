use Rattle.std.proofs.Common.{◌∷◌, ◌++◌, [], ◌∙◌, ap}
use Rattle.std.specs.FinMap.{insert}
use Rattle.dm_tree.specs.Rows.{nodes, path_of}
use Rattle.dm_commands.specs.Promises.{none_moved}
use Rattle.dm_commands.specs.Table.{added_node}
use Rattle.dm_commands.proofs.Additions.{added_new}
use Rattle.dm_commands.proofs.Endings.{ends-changed}
use Rattle.dm_commands.proofs.adds.add_at.Goals as goal

pub put_in-requires-clause-node : goal.put_in-requires-clause-node
put_in-requires-clause-node c =
    added_new (nodes c.args.tree.now.rows) c.args.step.now _ c.in_ok-node.ensures.node.1 c.requires.passed
    c.requires.short

pub returns-clause-ok : goal.returns-clause-ok
returns-clause-ok c =
    let before = c.args.tree.now in
    let now = c.put_in.new.tree in
    let p = path_of before.rows c.args.place.parent ++ c.args.place.name ∷ [] in
    ends-changed (insert (nodes before.rows) p (added_node before.clock c.args.step.now)) none_moved
    c.args.journal.now before c.put_in.new.journal now c.of_code.result c.of_code.ensures
    (c.in_ok-put_in.ensures.nodes ∙ ap (insert (nodes before.rows) p) (c.in_ok-node.ensures.node.1 before.clock))
    c.in_ok-put_in.ensures.ids c.in_ok-put_in.ensures.notes c.in_ok-put_in.ensures.clock
