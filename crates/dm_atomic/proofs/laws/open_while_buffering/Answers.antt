use Rattle.dm_atomic.proofs.OpenGroups.{command_open, quiet_ends_both}
use Rattle.dm_atomic.proofs.laws.open_while_buffering.Goals as goal

pub returns-clause-command : goal.returns-clause-command
returns-clause-command c = command_open

pub returns-clause-quiet : goal.returns-clause-quiet
returns-clause-quiet c = quiet_ends_both
