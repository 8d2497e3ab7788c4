use Rattle.std.proofs.Common.{slice_index_or}
use Rattle.dm_tree.proofs.Common.{◌≡◌, ◌∙◌, ◌∷◌, ◌++◌, [], ap, refl, sym, subst, set, no_children, IsIndex}
use Rattle.dm_tree.proofs.IndexFills.{room_below, added_index}
use Rattle.dm_tree.proofs.index.add_row.Goals as goal
use Rattle.dm_tree.proofs.index.add_row.Goals.{After-index_mut}

-- the children of the row's parent are read
read : (c : After-index_mut)
    → c.index_mut.result.now ≡ slice_index_or c.args.index.now.items c.args.row.parent c.index_mut.result.now
read c =
    c.index_mut.ensures.value
    ∙ ap (λ items. slice_index_or items c.args.row.parent c.index_mut.result.now) c.in_ok-reserve-2.ensures.items

pub expect-requires : goal.expect-requires
expect-requires c =
    room_below c.args.rows.now.items c.requires.tree.shape c.args.index.now.items c.requires.index c.args.row.parent
    c.requires.parent c.index_mut.result.now (read (goal.at.expect-requires c).After-index_mut)

pub returns-clause-index : goal.returns-clause-index
returns-clause-index c =
    let now = c.args.rows.now.items ++ c.args.row ∷ [] in
    let index : c.push_reserved-2.new.self.items
    ≡ set c.args.index.now.items c.args.row.parent c.expect.new.self ++ no_children ∷ [] =
    rw (c.push_reserved-2.ensures.items, c.new.ensures, c.in_ok-reserve-2.ensures.items) refl in
    rw (c.push_reserved.ensures.items, c.in_ok-reserve.ensures.items)
    (subst (IsIndex now) (sym index)
    (added_index c.args.rows.now.items c.requires.tree c.requires.few c.args.row c.requires.parent c.requires.out
    c.requires.held c.args.index.now.items c.requires.index c.index_mut.result.now c.expect.new.self
    (read (goal.at.returns-clause-index c).After-index_mut) c.expect.ensures.ids c.in_ok-expect.ensures.parked
    c.in_ok-expect.ensures.room))
