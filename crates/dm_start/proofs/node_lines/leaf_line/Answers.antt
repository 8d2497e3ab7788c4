use Rattle.std.proofs.Common.{◌≤◌, length, ◌∙◌, sym, arith}
use Rattle.std.proofs.lemmas.Result.{err_from_is_err_and}
use Rattle.dm_base.specs.Fields.{parts}
use Rattle.dm_tree.specs.Rows.{nodes}
use Rattle.dm_start.proofs.Laid.{refuses_same, leaf_laid}
use Rattle.dm_start.proofs.node_lines.leaf_line.Goals as goal

pub returns-in_err-add : goal.returns-in_err-add
returns-in_err-add c =
    let before = c.args.tree.now in
    let short : length c.in_ok-leaf.leaf.value.bytes ≤ 4194304 =
    omega (arith, c.if-len.false, c.len.ensures) in
    let same =
    leaf_laid before.clock (nodes before.rows)
    (parts c.args.line.now) c.in_ok-leaf.leaf c.new_node-node.result c.in_ok-leaf.ensures.leaf short
    c.new_node-node.ensures in
    let p = err_from_is_err_and c.from_residual-in_err-add.result c.from_residual-in_err-add.ensures.1 in
    rw (p.1, p.2)
    (refuses_same _ _ c.in_err-add.field-0.0 same c.in_err-add.ensures.added.0, c.in_err-add.ensures.added.1)

pub returns : goal.returns
returns c =
    let before = c.args.tree.now in
    let short : length c.in_ok-leaf.leaf.value.bytes ≤ 4194304 =
    omega (arith, c.if-len.false, c.len.ensures) in
    let same =
    leaf_laid before.clock (nodes before.rows)
    (parts c.args.line.now) c.in_ok-leaf.leaf c.new_node-node.result c.in_ok-leaf.ensures.leaf short
    c.new_node-node.ensures in
    (sym same ∙ c.in_ok-add.ensures.added.0, c.in_ok-add.ensures.added.1)
