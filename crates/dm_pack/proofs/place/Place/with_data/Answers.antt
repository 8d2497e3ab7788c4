use Rattle.dm_pack.proofs.Measuring.{no_room, no_data, with_data}
use Rattle.dm_pack.proofs.place.Place.with_data.Goals as goal

pub returns-then-least-room : goal.returns-then-least-room
returns-then-least-room c =
    no_room c.args.self c.args.value.now c.args.room c.end_length-end.result c.saturating_add-least.result
    c.end_length-end.ensures
    c.requires.room c.saturating_add-least.ensures c.if-least-room.true

pub returns-in-None : goal.returns-in-None
returns-in-None c =
    no_data c.args.self c.args.value.now c.args.room c.end_length-end.result c.saturating_add-least.result
    c.end_length-end.ensures
    c.requires.room c.saturating_add-least.ensures c.if-least-room.false c.in-None.ensures

pub returns-in-Some : goal.returns-in-Some
returns-in-Some c =
    with_data c.args.self c.args.value.now c.args.room c.end_length-end.result c.saturating_add-least.result
    c.in-Some.cost c.end_length-end.ensures
    c.requires.room c.saturating_add-least.ensures c.if-least-room.false c.in-Some.ensures
