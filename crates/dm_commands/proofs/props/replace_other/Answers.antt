use Rattle.std.proofs.Common.{sym, subst}
use Rattle.dm_tree.specs.Rows.{nodes}
use Rattle.dm_commands.specs.Promises.{CarriesOut, none_moved}
use Rattle.dm_commands.proofs.Tables.{other-there, other-none}
use Rattle.dm_commands.proofs.props.replace_other.Goals as goal

pub returns-in-Some : goal.returns-in-Some
returns-in-Some c =
    subst (λ d. CarriesOut d none_moved c.args.journal.now c.args.tree.now c.args.journal.now c.args.tree.now c.refuse.result)
    (sym (other-there (nodes c.args.tree.now.rows) c.args.uri.now _ c.in-Some.ensures.node))
    (c.refuse.ensures none_moved)

pub returns-in-None : goal.returns-in-None
returns-in-None c =
    subst (λ d. CarriesOut d none_moved c.args.journal.now c.args.tree.now c.args.journal.now c.args.tree.now
    c.refuse-in-None.result)
    (sym (other-none (nodes c.args.tree.now.rows) c.args.uri.now c.in-None.ensures.node))
    (c.refuse-in-None.ensures none_moved)
