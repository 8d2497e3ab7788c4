use Rattle.dm_tree.proofs.Common.{sym, slice_get_within, get_or_from_slice_get}
use Rattle.dm_tree.proofs.IndexLinks.{ids_inside}
use Rattle.dm_tree.proofs.NamePlaces.{list_read, another_there, nothing_there, child_read, no_child_there}
use Rattle.dm_tree.proofs.walks.child_row.Goals as goal

pub place_of-requires : goal.place_of-requires
place_of-requires c =
    let list = list_read _ _ c.requires.index _ c.requires.inside _ c.index-index-id.is in
    record { inside = rw c.as_slice-ids.ensures (ids_inside _ _ _ list); order = rw c.as_slice-ids.ensures list.order }

pub is_named-requires : goal.is_named-requires
is_named-requires c =
    let list = list_read _ _ c.requires.index _ c.requires.inside _ c.index-index-id.is in
    let e = rw c.as_slice-ids.ensures at (sym c.in-Some.ensures) in
    rw (get_or_from_slice_get _ _ _ 0 e) at (ids_inside _ _ _ list _ (slice_get_within _ _ _ e))

pub returns-in-Some : goal.returns-in-Some
returns-in-Some c =
    child_read _ c.requires.shaped _ _ (list_read _ _ c.requires.index _ c.requires.inside _ c.index-index-id.is)
    c.place_of.result _ (rw c.as_slice-ids.ensures at (sym c.in-Some.ensures)) _ (sym c.if-is_named.ensures)

pub returns-in_default : goal.returns-in_default
returns-in_default c =
    no_child_there _ c.requires.shaped _ _
    (list_read _ _ c.requires.index _ c.requires.inside _ c.index-index-id.is) _ _
    (rw c.as_slice-ids.ensures at c.place_of.ensures)
    (another_there _ _ _ _ c.in-Some.child (rw c.as_slice-ids.ensures at (sym c.in-Some.ensures))
    (sym c.if-is_named.ensures))

pub returns-in_default-2 : goal.returns-in_default-2
returns-in_default-2 c =
    no_child_there _ c.requires.shaped _ _
    (list_read _ _ c.requires.index _ c.requires.inside _ c.index-index-id.is) _ _
    (rw c.as_slice-ids.ensures at c.place_of.ensures)
    (nothing_there _ _ _ _ (rw c.as_slice-ids.ensures at (sym c.in_default.ensures)))
