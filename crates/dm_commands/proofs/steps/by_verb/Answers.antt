use Rattle.std.proofs.Common.{sym, subst}
use Rattle.std.specs.Prelude.{Ok}
use Rattle.syncml_types.specs.declared.command.Verb.TheVariants as verb
use Rattle.dm_tree.specs.Rows.{nodes}
use Rattle.dm_commands.specs.Outcomes.{asked_by}
use Rattle.dm_commands.specs.Table.{by_verb}
use Rattle.dm_commands.specs.Promises.{CarriesOut, is_moved_at}
use Rattle.dm_commands.proofs.steps.by_verb.Goals as goal

pub returns-in-Copy-clause-ok : goal.returns-in-Copy-clause-ok
returns-in-Copy-clause-ok c =
    let before = c.args.tree.now in
    let journal = c.args.journal.now in
    subst (λ v.
    CarriesOut (by_verb (asked_by c.args.caller.now before.clock) (nodes before.rows) c.args.step.now c.args.uri v)
    (is_moved_at v (Ok c.args.uri)) journal before journal before c.refuse.result) (sym c.in-Copy.is)
    (c.refuse.ensures (is_moved_at verb.Copy (Ok c.args.uri)))
