use Rattle.dm_tree.proofs.Common.{refl, blank}
use Rattle.dm_tree.proofs.IndexLinks.{taken_index, child_place, ids_inside, HasRead, read, read_list, read_children}
use Rattle.dm_tree.proofs.IndexEdits.{few_parked}
use Rattle.dm_tree.proofs.index.unlink.Goals as goal
use Rattle.dm_tree.proofs.index.unlink.Goals.{After-as_slice}

-- the row that the code read
row : (c : After-as_slice) → HasRead c.args.rows.now c.args.index.now.items c.args.id c.index-rows-id.result
row c = record {
  is = read c.args.rows.now c.args.id c.index-rows-id.result blank c.requires.attached.inside c.index-rows-id.is;
  above = c.requires.attached.shaped.inside c.args.id c.requires.attached.inside;
  known = c.requires.index;
}

pub place_of-place-requires : goal.place_of-place-requires
place_of-place-requires c =
    let x = row (goal.at.place_of-place-requires c).After-as_slice in
    let same = read_children _ _ _ _ x c.index.result.now c.index.ensures in
    record {
      inside = rw (c.as_slice.ensures, same) (ids_inside _ _ _ (read_list _ _ _ _ x));
      order = rw (c.as_slice.ensures, same) (read_list _ _ _ _ x).order;
    }

pub take_out-requires : goal.take_out-requires
take_out-requires c =
    let x = row (goal.at.take_out-requires c).After-as_slice in
    let same = read_children _ _ _ _ x c.index.result.now c.index.ensures in
    let lent = read_children _ _ _ _ x c.index_mut.result.now c.index_mut.ensures.value in
    record {
      place =
          rw lent
          (child_place _ _ _ (read_list _ _ _ _ x) c.args.id c.requires.attached.attached refl c.place_of-place.result
          (rw (c.as_slice.ensures, same, x.is) at c.place_of-place.ensures)).0;
      parked = rw lent (few_parked c.args.rows.now c.requires.attached.shaped _ _ (read_list _ _ _ _ x));
    }

pub returns : goal.returns
returns c =
    let x = row (goal.at.returns c).After-as_slice in
    rw (c.take_out.ensures, read_children _ _ _ _ x c.index_mut.result.now c.index_mut.ensures.value, x.is)
    (taken_index _ _ _ c.requires.attached c.requires.index c.place_of-place.result
    (rw (c.as_slice.ensures, read_children _ _ _ _ x c.index.result.now c.index.ensures, x.is) at
    c.place_of-place.ensures))
