use Rattle.dm_tree.proofs.Common.{◌∙◌, ap, sym, Row, blank, node_of}
use Rattle.dm_tree.proofs.IndexLinks.{read}
use Rattle.dm_tree.proofs.IndexEdits.{index-with_name}
use Rattle.dm_tree.proofs.index.swap_name.Goals as goal

pub returns-else-index-clause-index : goal.returns-else-index-clause-index
returns-else-index-clause-index c =
    let rows = c.args.rows.now.items in
    let row = read rows c.args.id c.index.result.now blank c.requires.inside c.index.ensures in
    rw c.exchange_name.ensures.rows
    (index-with_name rows c.args.id c.args.name.now (node_of rows c.args.id) c.requires.inside
    (ap (λ (r : Row). r.attached) (sym row) ∙ c.if-index.false) c.args.index.now.items c.requires.index)
