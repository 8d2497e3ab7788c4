use Rattle.std.proofs.lemmas.Result.{err_from_is_err_and}
use Rattle.dm_start.proofs.Laid.{device_is_within, itself}
use Rattle.dm_start.proofs.start_trees.add_device_node.Goals as goal

pub returns-in_err-path : goal.returns-in_err-path
returns-in_err-path c =
    let p = err_from_is_err_and c.from_residual.result c.from_residual.ensures.1 in
    rw (p.1, p.2) (device_is_within _ c.in_err-path.field-0.0 c.in_err-path.ensures, itself c.args.tree.now)
