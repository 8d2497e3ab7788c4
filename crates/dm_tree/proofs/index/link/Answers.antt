use Rattle.dm_tree.proofs.Common.{blank}
use Rattle.dm_tree.proofs.IndexLinks.{parent_inside, put_index, one_parked, ids_inside, HasRead, read, read_list}
use Rattle.dm_tree.proofs.IndexLinks.{read_children}
use Rattle.dm_tree.proofs.index.link.Goals as goal
use Rattle.dm_tree.proofs.index.link.Goals.{After-as_slice}

-- the row that the code read
row : (c : After-as_slice) → HasRead c.args.rows.now c.args.index.now.items c.args.id c.index-rows-id.result
row c = record {
  is = read c.args.rows.now c.args.id c.index-rows-id.result blank c.requires.out.inside c.index-rows-id.is;
  above = parent_inside c.args.rows.now c.args.id c.requires.out;
  known = c.requires.index;
}

pub place_of-place-requires : goal.place_of-place-requires
place_of-place-requires c =
    let x = row (goal.at.place_of-place-requires c).After-as_slice in
    let same = read_children _ _ _ _ x c.index.result.now c.index.ensures in
    record {
      inside = rw (c.as_slice.ensures, same) (ids_inside _ _ _ (read_list _ _ _ _ x));
      order = rw (c.as_slice.ensures, same) (read_list _ _ _ _ x).order;
    }

pub put_in-requires : goal.put_in-requires
put_in-requires c =
    let x = row (goal.at.put_in-requires c).After-as_slice in
    let same = read_children _ _ _ _ x c.index.result.now c.index.ensures in
    let lent = read_children _ _ _ _ x c.index_mut.result.now c.index_mut.ensures.value in
    record {
      place = rw lent (rw (c.as_slice.ensures, same) at c.place_of-place.ensures).within;
      parked = rw lent (one_parked _ _ c.requires.out _ (read_list _ _ _ _ x));
      room = rw lent (read_list _ _ _ _ x).room;
    }

pub returns : goal.returns
returns c =
    let x = row (goal.at.returns c).After-as_slice in
    rw (c.put_in.ensures, read_children _ _ _ _ x c.index_mut.result.now c.index_mut.ensures.value, x.is)
    (put_index _ _ c.requires.out _ c.requires.index c.place_of-place.result
    (rw (c.as_slice.ensures, read_children _ _ _ _ x c.index.result.now c.index.ensures, x.is) at
    c.place_of-place.ensures))
