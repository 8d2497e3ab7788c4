use Rattle.dm_commands.proofs.Refusals.{refused_step}
use Rattle.dm_commands.proofs.laws.refused_step_changes_nothing.Goals as goal

pub returns : goal.returns
returns c = refused_step
