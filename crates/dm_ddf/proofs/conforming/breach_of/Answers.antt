use Rattle.std.proofs.Common.{◌∙◌, sym, ap}
use Rattle.std.specs.Prelude.{option_and_then}
use Rattle.dm_tree.specs.Rows.{nodes, node_of, path_of}
use Rattle.dm_ddf.specs.Breaches.{rule_breach, node_breach}
use Rattle.dm_ddf.proofs.conforming.breach_of.Goals as goal

pub returns : goal.returns
returns c =
    let rows = c.args.tree.now.rows in
    let p = path_of rows c.args.id in
    c.rule_breach.ensures ∙ ap (rule_breach (nodes rows) c.args.rules.now p (node_of rows c.args.id)) c.rule_for.ensures
    ∙ ap (option_and_then (node_breach (nodes rows) c.args.rules.now p)) (sym c.view.ensures.there)
