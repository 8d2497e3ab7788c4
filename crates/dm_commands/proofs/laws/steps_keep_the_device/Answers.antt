use Rattle.dm_commands.proofs.Keeping.{step_keeps_update, step_keeps_device}
use Rattle.dm_commands.proofs.laws.steps_keep_the_device.Goals as goal

pub returns-clause-update : goal.returns-clause-update
returns-clause-update c = step_keeps_update

pub returns-clause-device : goal.returns-clause-device
returns-clause-device c = step_keeps_device
