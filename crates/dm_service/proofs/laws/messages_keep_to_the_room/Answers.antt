use Rattle.dm_service.proofs.Stays.{sends_within_room}
use Rattle.dm_service.proofs.laws.messages_keep_to_the_room.Goals as goal

pub returns : goal.returns
returns c = sends_within_room
