use Rattle.dm_machine.proofs.StaysReady.{sends_within_room}
use Rattle.dm_machine.proofs.laws.messages_keep_to_the_room.Goals as goal

pub returns : goal.returns
returns c = sends_within_room
