use Rattle.std.proofs.Common.{sym, subst}
use Rattle.std.specs.Prelude.{Ok}
use Rattle.dm_tree.specs.Rows.{nodes}
use Rattle.dm_commands.specs.Outcomes.{asked_by, Does}
use Rattle.dm_commands.specs.Table.{by_verb}
use Rattle.dm_commands.specs.Promises.{is_moved, is_moved_at, none_moved}
use Rattle.dm_commands.proofs.Acts.{act-refused, ended-ids}
use Rattle.dm_commands.proofs.Moves.{moved-at}
use Rattle.dm_commands.proofs.steps.act.Goals as goal

pub returns-in-Ok-Ok-clause-ids : goal.returns-in-Ok-Ok-clause-ids
returns-in-Ok-Ok-clause-ids c =
    let before = c.args.tree.now in
    let step = c.args.step.now in
    let uri = c.in-Ok-Ok.uri in
    ended-ids c.by_verb.result
    (by_verb (asked_by c.args.caller.now before.clock) (nodes before.rows) step uri step.verb)
    (is_moved_at step.verb (Ok uri)) (is_moved step) c.args.journal.now before c.by_verb.new.journal c.by_verb.new.tree
    (λ p. moved-at step uri p (sym (rw c.in-Ok-Ok.field-0-is at c.in-Ok-Ok.ensures.read))) c.by_verb.ensures.ok

pub returns-in-Ok-Err-clause-done : goal.returns-in-Ok-Err-clause-done
returns-in-Ok-Err-clause-done c =
    let m = nodes c.args.tree.now.rows in
    subst (λ d. Does d c.refuse.result m)
    (act-refused (asked_by c.args.caller.now c.args.tree.now.clock) m c.args.step.now c.in-Ok-Err.code
    (rw c.in-Ok-Err.field-0-is at c.in-Ok-Err.ensures.read)) (c.refuse.ensures none_moved).does

pub returns-in-Ok-Err-clause-notes : goal.returns-in-Ok-Err-clause-notes
returns-in-Ok-Err-clause-notes c = (c.refuse.ensures none_moved).notes
