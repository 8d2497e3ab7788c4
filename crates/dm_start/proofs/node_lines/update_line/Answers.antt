use Rattle.std.proofs.Common.{◌∙◌, sym}
use Rattle.std.proofs.lemmas.Result.{err_from_is_err_and}
use Rattle.dm_base.specs.Fields.{parts}
use Rattle.dm_tree.specs.Rows.{nodes}
use Rattle.dm_start.specs.Fields.{only_path}
use Rattle.dm_start.specs.Growing.{with_update}
use Rattle.dm_start.proofs.Laid.{refuses_same, path_used}
use Rattle.dm_start.proofs.node_lines.update_line.Goals as goal

pub returns-in_err-add_update : goal.returns-in_err-add_update
returns-in_err-add_update c =
    let before = c.args.tree.now in
    let same =
    path_used (only_path (parts c.args.line.now)) c.in_ok-path.path
    (with_update before.clock (nodes before.rows)) c.in_ok-path.ensures.path in
    let p = err_from_is_err_and c.from_residual-in_err-add_update.result c.from_residual-in_err-add_update.ensures.1 in
    rw (p.1, p.2) (
      refuses_same _ _ c.in_err-add_update.field-0.0 same c.in_err-add_update.ensures.0,
      c.in_err-add_update.ensures.1,
    )

pub returns : goal.returns
returns c =
    let before = c.args.tree.now in
    let same =
    path_used (only_path (parts c.args.line.now)) c.in_ok-path.path
    (with_update before.clock (nodes before.rows)) c.in_ok-path.ensures.path in
    (sym same ∙ c.in_ok-add_update.ensures.0, c.in_ok-add_update.ensures.1)
