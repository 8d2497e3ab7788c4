use Rattle.dm_tree.proofs.Devices as devices
use Rattle.dm_tree.proofs.laws.update_is_found.Goals as goal

pub returns : goal.returns
returns c = devices.update_is_found
