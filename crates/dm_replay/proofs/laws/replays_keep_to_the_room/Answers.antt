use Rattle.dm_replay.proofs.Rooms as lemmas
use Rattle.dm_replay.proofs.laws.replays_keep_to_the_room.Goals as goal

pub returns : goal.returns
returns c = lemmas.replays_keep_to_the_room
