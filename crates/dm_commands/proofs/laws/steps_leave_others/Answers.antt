use Rattle.dm_commands.proofs.Leaving.{step_leaves_others}
use Rattle.dm_commands.proofs.laws.steps_leave_others.Goals as goal

pub returns : goal.returns
returns c = step_leaves_others
