use Rattle.std.proofs.Common.{◌∷◌, ◌++◌, [], sym, ◌∙◌, ap}
use Rattle.std.specs.FinMap.{get}
use Rattle.dm_tree.specs.Rows.{nodes, path_of}
use Rattle.dm_commands.proofs.Besides.{taken-none, taken-other}
use Rattle.dm_commands.proofs.names.is_taken.Goals as goal

pub returns-in-Some-clause-taken : goal.returns-in-Some-clause-taken
returns-in-Some-clause-taken c =
    c.ne.ensures
    ∙ sym (taken-other c.args.tree.now.rows c.node_above.ensures.sound c.args.id c.in-Some.other c.args.name.now
    c.requires
    c.in-Some.ensures.live.0
    (c.in-Some.ensures.live.1 ∙ ap (λ q. q ++ c.args.name.now ∷ []) c.node_above.ensures.at.path))

pub returns-in-None-clause-taken : goal.returns-in-None-clause-taken
returns-in-None-clause-taken c =
    sym (taken-none (nodes c.args.tree.now.rows) (path_of c.args.tree.now.rows c.args.id) c.args.name.now
    (ap (λ q. get (nodes c.args.tree.now.rows) (q ++ c.args.name.now ∷ [])) (sym c.node_above.ensures.at.path)
    ∙ c.in-None.ensures.node))
