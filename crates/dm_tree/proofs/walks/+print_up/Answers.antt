use Rattle.std.proofs.lemmas.Grind.{common_steps}
use Rattle.std.proofs.lemmas.Result.{on_ok_weaker}
use Rattle.dm_tree.proofs.Common.{◌<◌, ◌∙◌, arith, get_or_default, blank}
use Rattle.dm_tree.proofs.PrintedPaths.{printed_up}
use Rattle.dm_tree.proofs.walks.+print_up.Goals as goal

pub returns : goal.returns
returns t c =
    let some : 0 < c.args.left = grind (arith, common_steps) in
    let here = c.index-rows-id.is ∙ get_or_default c.args.rows.now c.args.id _ blank c.requires.inside in
    on_ok_weaker c.extend.result
    (printed_up c.args.rows.now c.args.left c.args.id c.index-rows-id.result _ _ _ _ _ some here
    c.as_slice.ensures.bytes c.in_ok-print_up.ensures c.in_ok-push.ensures.ok)
    c.extend.ensures.ok
