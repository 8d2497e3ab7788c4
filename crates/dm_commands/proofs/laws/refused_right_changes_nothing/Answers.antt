use Rattle.dm_commands.proofs.Refusals.{refused_right, only_refused}
use Rattle.dm_commands.proofs.laws.refused_right_changes_nothing.Goals as goal

pub returns-clause-nothing : goal.returns-clause-nothing
returns-clause-nothing c = refused_right

pub returns-clause-only : goal.returns-clause-only
returns-clause-only c = only_refused
