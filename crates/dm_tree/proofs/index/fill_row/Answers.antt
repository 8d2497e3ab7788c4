use Rattle.dm_tree.proofs.IndexFills.{filled_index}
use Rattle.dm_tree.proofs.index.fill_row.Goals as goal

pub returns-clause-index : goal.returns-clause-index
returns-clause-index c =
    filled_index c.args.rows.now.items c.requires.tree c.args.id c.requires.free c.args.row c.requires.parent
    c.requires.out c.requires.held c.args.index.now.items c.requires.index c.index_mut.result.now c.expect.new.self
    c.index_mut.ensures.value c.expect.ensures.ids c.in_ok-expect.ensures.parked c.in_ok-expect.ensures.room
