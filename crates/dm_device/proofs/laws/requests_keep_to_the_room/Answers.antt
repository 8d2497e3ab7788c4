use Rattle.dm_device.proofs.Rooms.{runs_keep}
use Rattle.dm_device.proofs.laws.requests_keep_to_the_room.Goals as goal

pub returns : goal.returns
returns c = runs_keep
