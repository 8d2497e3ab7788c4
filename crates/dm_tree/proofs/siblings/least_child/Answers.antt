use Rattle.dm_tree.proofs.Common.{None, Some}
use Rattle.dm_tree.proofs.IndexLinks.{ids_inside}
use Rattle.dm_tree.proofs.NamePlaces.{list_read, first_place, past_place, least_found}
use Rattle.dm_tree.proofs.siblings.least_child.Goals as goal

pub place_behind-requires-clause-inside : goal.place_behind-requires-clause-inside
place_behind-requires-clause-inside c =
    rw c.as_slice-ids.ensures
    (ids_inside _ _ _ (list_read _ _ c.requires.index _ c.requires.inside _ c.index-index-id.is))

pub place_behind-requires-clause-order : goal.place_behind-requires-clause-order
place_behind-requires-clause-order c =
    rw c.as_slice-ids.ensures (list_read _ _ c.requires.index _ c.requires.inside _ c.index-index-id.is).order

pub returns-in-None : goal.returns-in-None
returns-in-None c =
    let list = list_read _ _ c.requires.index _ c.requires.inside _ c.index-index-id.is in
    rw (c.id_at.ensures, c.as_slice-ids.ensures, c.in-None.is)
    (least_found _ c.requires.shaped _ _ list None 0 (first_place _ c.requires.shaped _ _ list))

pub returns-in-Some : goal.returns-in-Some
returns-in-Some c =
    let list = list_read _ _ c.requires.index _ c.requires.inside _ c.index-index-id.is in
    rw (c.id_at-in-Some.ensures, c.as_slice-ids.ensures, c.in-Some.is)
    (least_found _ c.requires.shaped _ _ list (Some c.in-Some.row) c.place_behind.result
    (past_place _ c.requires.shaped _ _ list c.in-Some.row c.place_behind.result
    (rw c.as_slice-ids.ensures at c.place_behind.ensures)))
