use Rattle.dm_tree.proofs.BareDevices.{bare_device_is_device}
use Rattle.dm_tree.proofs.laws.bare_device_is_device.Goals as goal

pub returns : goal.returns
returns c = bare_device_is_device
