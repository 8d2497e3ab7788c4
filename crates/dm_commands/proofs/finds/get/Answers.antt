use Rattle.std.proofs.Common.{false, refl}
use Rattle.dm_tree.specs.Rows.{nodes}
use Rattle.dm_commands.specs.Outcomes.{asked_by, done_finding}
use Rattle.dm_commands.specs.Table.{get_refusals}
use Rattle.dm_commands.specs.Finding.{found_by}
use Rattle.dm_commands.specs.Promises.{none_moved}
use Rattle.dm_commands.proofs.Findings.{first-refused, none-refused}
use Rattle.dm_commands.proofs.finds.get.Goals as goal

pub returns-in-Err : goal.returns-in-Err
returns-in-Err c =
    let m = nodes c.args.tree.now.rows in
    let s = asked_by c.args.caller.now c.args.tree.now.clock in
    first-refused (get_refusals s m c.args.uri.now) (done_finding m (found_by s m c.args.uri.now c.args.uri.now.query))
    c.in-Err.code none_moved
    c.args.journal.now c.args.tree.now c.refuse.result c.in-Err.ensures.judged (c.refuse.ensures none_moved)

pub returns : goal.returns
returns c =
    let m = nodes c.args.tree.now.rows in
    let s = asked_by c.args.caller.now c.args.tree.now.clock in
    none-refused (get_refusals s m c.args.uri.now) (done_finding m (found_by s m c.args.uri.now c.args.uri.now.query))
    none_moved
    c.args.journal.now c.args.tree.now (record { code = 200; results = c.in_ok-results.results; started = false })
    c.in-Ok.ensures.judged
    (record { tree = refl; code = refl; found = c.in_ok-results.ensures; started = refl })
