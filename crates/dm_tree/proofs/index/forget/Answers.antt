use Rattle.dm_tree.proofs.Common.{blank}
use Rattle.dm_tree.proofs.IndexLinks.{HasRead, read, read_children}
use Rattle.dm_tree.proofs.IndexEdits.{forgotten_index, forgotten_some}
use Rattle.dm_tree.proofs.index.forget.Goals as goal
use Rattle.dm_tree.proofs.index.forget.Goals.{After-index_mut}

-- the row that the code read
row : (c : After-index_mut) → HasRead c.args.rows.now c.args.index.now.items c.args.id c.index-rows-id.result
row c = record {
  is = read c.args.rows.now c.args.id c.index-rows-id.result blank c.requires.parked.inside c.index-rows-id.is;
  above = c.requires.shaped.inside c.args.id c.requires.parked.inside;
  known = c.requires.index;
}

pub give_up-requires : goal.give_up-requires
give_up-requires c =
    let x = row (goal.at.give_up-requires c).After-index_mut in
    rw (read_children _ _ _ _ x c.index_mut.result.now c.index_mut.ensures.value)
    (forgotten_some _ _ _ c.requires.parked c.requires.shaped c.requires.index)

pub returns : goal.returns
returns c =
    let x = row (goal.at.returns c).After-index_mut in
    rw (c.give_up.ensures, read_children _ _ _ _ x c.index_mut.result.now c.index_mut.ensures.value, x.is)
    (forgotten_index _ _ _ c.requires.parked c.requires.shaped c.requires.index)
