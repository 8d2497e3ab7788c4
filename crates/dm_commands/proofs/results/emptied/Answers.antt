use Rattle.std.proofs.Common.{◌≡◌, ◌∙◌, sym, subst, false, [], rules}
use Rattle.dm_tree.specs.Nodes.{IsValue}
use Rattle.dm_tree.specs.Rows.{node_of, path_of}
use Rattle.dm_commands.proofs.Endings.{if_ok}
use Rattle.dm_commands.proofs.Ended.{emptied_is_value}
use Rattle.dm_commands.proofs.results.emptied.Goals as goal

pub returns-clause-value : goal.returns-clause-value
returns-clause-value c =
    let rows = c.args.tree.now.rows in
    let x = node_of rows c.args.id in
    let kept : record { format = c.as_slice.result.now; media = c.as_slice-2.result.now; bytes = [] }
    ≡ record x.value { bytes = [] } = search rules in
    if_ok c.value_of.result (λ value is. subst (IsValue false) (sym (is ∙ kept))
    (emptied_is_value x (c.root.ensures.well_formed.each (path_of rows c.args.id) x c.view.ensures.there)
    c.requires.leaf)) c.value_of.ensures
