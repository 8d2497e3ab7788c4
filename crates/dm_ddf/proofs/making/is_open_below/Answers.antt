use Rattle.std.proofs.Common.{◌∙◌, ap, sym}
use Rattle.dm_tree.specs.Rows.{nodes, node_of, path_of}
use Rattle.dm_start.specs.Growing.{takes_child}
use Rattle.dm_ddf.proofs.Makings.{open_below, shut_below}
use Rattle.dm_ddf.proofs.making.is_open_below.Goals as goal

pub returns-then-takes_child : goal.returns-then-takes_child
returns-then-takes_child c =
    let rows = c.args.tree.now.rows in
    let takes = ap (takes_child c.args.permanent) (sym c.view.ensures.node) ∙ sym c.takes_child.ensures
    ∙ c.if-takes_child.true in
    open_below (nodes rows) (path_of rows c.args.parent) c.args.name.now (node_of rows c.args.parent) c.args.permanent
    c.is_none.result (node_of rows) c.child.result c.view.ensures.there takes c.child.ensures.node c.is_none.ensures

pub returns-else-takes_child : goal.returns-else-takes_child
returns-else-takes_child c =
    let rows = c.args.tree.now.rows in
    let takes = ap (takes_child c.args.permanent) (sym c.view.ensures.node) ∙ sym c.takes_child.ensures
    ∙ c.if-takes_child.false in
    c.if-takes_child.false
    ∙ sym (shut_below (nodes rows) (path_of rows c.args.parent) c.args.name.now (node_of rows c.args.parent)
    c.args.permanent c.view.ensures.there takes)
