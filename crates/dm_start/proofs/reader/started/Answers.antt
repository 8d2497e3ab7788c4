use Rattle.std.proofs.Common.{Ok, ap}
use Rattle.std.proofs.lemmas.Result.{err_from_is_err_and}
use Rattle.dm_start.proofs.StartTrees.{never_refused, started_is}
use Rattle.dm_start.proofs.reader.started.Goals as goal

pub returns-in_err-start_tree-clause-read : goal.returns-in_err-start_tree-clause-read
returns-in_err-start_tree-clause-read c =
    let p = err_from_is_err_and c.from_residual.result c.from_residual.ensures.1 in
    rw (p.1, p.2)
    (never_refused c.args.clock c.args.device.now _ c.in_err-start_tree.field-0.0 c.in_err-start_tree.ensures.nodes)

pub returns-clause-read : goal.returns-clause-read
returns-clause-read c =
    ap (λ s. Ok s)
    (started_is c.args.version c.args.device.now c.args.limits c.args.clock c.new.result c.in_ok-start_tree.field-0
    c.new.ensures
    c.in_ok-start_tree.ensures.nodes c.in_ok-start_tree.ensures.clock)
