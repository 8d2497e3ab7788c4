use Rattle.std.proofs.Common.{◌≡◌, ◌∙◌, ◌++◌, ◌∷◌, [], sym, true, false}
use Rattle.std.specs.FinMap.{get}
use Rattle.dm_tree.specs.Rows.{nodes, node_of, path_of}
use Rattle.dm_ddf.proofs.Makings.{opens}
use Rattle.dm_ddf.proofs.making.put_below.Goals as goal

pub insert-requires-clause-interior : goal.insert-requires-clause-interior
insert-requires-clause-interior c =
    let rows = c.args.tree.now.rows in
    (opens (nodes rows) (path_of rows c.args.parent) c.args.name (node_of rows c.args.parent) c.args.node.permanent
    c.view.ensures.there (sym c.is_open_below.ensures ∙ c.if-not-is_open_below.false)).0

pub insert-requires-clause-permanent : goal.insert-requires-clause-permanent
insert-requires-clause-permanent c =
    let rows = c.args.tree.now.rows in
    (opens (nodes rows) (path_of rows c.args.parent) c.args.name (node_of rows c.args.parent) c.args.node.permanent
    c.view.ensures.there (sym c.is_open_below.ensures ∙ c.if-not-is_open_below.false)).1
