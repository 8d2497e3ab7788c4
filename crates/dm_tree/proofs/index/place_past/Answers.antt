use Rattle.dm_tree.proofs.Common.{sym}
use Rattle.dm_tree.proofs.NamePlaces.{another_there, nothing_there, past_named, past_unnamed}
use Rattle.dm_tree.proofs.index.place_past.Goals as goal

pub returns-in-Some : goal.returns-in-Some
returns-in-Some c =
    past_named c.args.rows.now c.args.ids.now c.args.name.now c.place_of-place.result c.requires.order c.in-Some.id
    (sym c.in-Some.ensures) (sym c.if-is_named.ensures)

pub returns-in_default : goal.returns-in_default
returns-in_default c =
    past_unnamed _ _ _ _ c.requires.order c.place_of-place.ensures
    (another_there _ _ _ _ c.in-Some.id (sym c.in-Some.ensures) (sym c.if-is_named.ensures))

pub returns-in_default-2 : goal.returns-in_default-2
returns-in_default-2 c =
    past_unnamed _ _ _ _ c.requires.order c.place_of-place.ensures (nothing_there _ _ _ _ (sym c.in_default.ensures))
