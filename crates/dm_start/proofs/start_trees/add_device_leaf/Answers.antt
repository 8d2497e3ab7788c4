use Rattle.std.proofs.Common.{◌≡◌, false, true, ◌∷◌, ◌++◌, [], ◌∙◌, ap, sym}
use Rattle.std.proofs.lemmas.Result.{err_from_is_err_and}
use Rattle.dm_tree.specs.declared.nodes.Role.TheVariants.{ReadOnly}
use Rattle.dm_tree.specs.Devices.{device_path}
use Rattle.dm_tree.specs.Rows.{nodes}
use Rattle.dm_start.specs.Growing.{new_node, text_value, with_one, new_device_leaf}
use Rattle.dm_start.proofs.Laid.{refuses_same, device_is_within, itself}
use Rattle.dm_start.proofs.start_trees.add_device_leaf.Goals as goal

pub returns-in_err-device_node : goal.returns-in_err-device_node
returns-in_err-device_node c =
    let p = err_from_is_err_and c.from_residual.result c.from_residual.ensures.1 in
    rw (p.1, p.2)
    (device_is_within _ c.in_err-device_node.field-0.0 c.in_err-device_node.ensures, itself c.args.tree.now)

pub returns-in_err-add : goal.returns-in_err-add
returns-in_err-add c =
    let before = c.args.tree.now in
    let path : c.in_ok-path.path ≡ device_path c.args.name.now = c.in_ok-path.ensures.0
    ∙ ap (λ q. q ++ c.args.name.now ∷ []) c.in_ok-device_node.ensures.0 in
    let node : c.new_node-node.result ≡ new_device_leaf c.args.text.now = c.new_node-node.ensures
    ∙ ap (λ v. new_node false v true ReadOnly) (c.in_ok-value.ensures ∙ ap text_value c.as_slice.ensures.value) in
    let same = ap (λ q. with_one before.clock (nodes before.rows) q c.new_node-node.result) path
    ∙ ap (with_one before.clock (nodes before.rows) (device_path c.args.name.now)) node in
    let p = err_from_is_err_and c.from_residual-in_err-add.result c.from_residual-in_err-add.ensures.1 in
    rw (p.1, p.2)
    (refuses_same _ _ c.in_err-add.field-0.0 same c.in_err-add.ensures.added.0, c.in_err-add.ensures.added.1)

pub returns : goal.returns
returns c =
    let before = c.args.tree.now in
    let path : c.in_ok-path.path ≡ device_path c.args.name.now = c.in_ok-path.ensures.0
    ∙ ap (λ q. q ++ c.args.name.now ∷ []) c.in_ok-device_node.ensures.0 in
    let node : c.new_node-node.result ≡ new_device_leaf c.args.text.now = c.new_node-node.ensures
    ∙ ap (λ v. new_node false v true ReadOnly) (c.in_ok-value.ensures ∙ ap text_value c.as_slice.ensures.value) in
    let same = ap (λ q. with_one before.clock (nodes before.rows) q c.new_node-node.result) path
    ∙ ap (with_one before.clock (nodes before.rows) (device_path c.args.name.now)) node in
    (sym same ∙ c.in_ok-add.ensures.added.0, c.in_ok-add.ensures.added.1)
