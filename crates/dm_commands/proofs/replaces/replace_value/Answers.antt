use Rattle.std.proofs.Common.{refl}
use Rattle.dm_tree.specs.Rows.{nodes}
use Rattle.dm_commands.specs.Outcomes.{asked_by, changed_to}
use Rattle.dm_commands.specs.Table.{value_refusals, after_value}
use Rattle.dm_commands.specs.Promises.{none_moved}
use Rattle.dm_commands.proofs.Endings.{refused-ends}
use Rattle.dm_commands.proofs.GivenValues.{given_value}
use Rattle.dm_commands.proofs.replaces.replace_value.Goals as goal

pub returns-in-Err-clause-ok : goal.returns-in-Err-clause-ok
returns-in-Err-clause-ok c =
    let before = c.args.tree.now in
    let s = asked_by c.args.caller.now before.clock in
    refused-ends (value_refusals s (nodes before.rows) c.args.step.now c.args.uri.now)
    (changed_to (after_value s (nodes before.rows) c.args.step.now c.args.uri.now.path)) c.in-Err.code none_moved
    c.args.journal.now before c.refuse.result
    c.in-Err.ensures.judged (c.refuse.ensures none_moved)

pub put_package-requires-clause-value : goal.put_package-requires-clause-value
put_package-requires-clause-value c =
    let before = c.args.tree.now in
    let at = c.in-Ok.ensures.place in
    given_value (asked_by c.args.caller.now before.clock) before.rows c.root.ensures.well_formed c.root.ensures.sound
    c.args.step.now c.args.uri.now c.in-Ok.id
    at.live at.path c.in-Ok.ensures.judged c.requires.short c.in_ok-value.value c.in_ok-value.ensures.value

pub put_given-requires-clause-value : goal.put_given-requires-clause-value
put_given-requires-clause-value c =
    let before = c.args.tree.now in
    let at = c.in-Ok.ensures.place in
    given_value (asked_by c.args.caller.now before.clock) before.rows c.root.ensures.well_formed c.root.ensures.sound
    c.args.step.now c.args.uri.now c.in-Ok.id
    at.live at.path c.in-Ok.ensures.judged c.requires.short _ refl
