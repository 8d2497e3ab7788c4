use Rattle.dm_atomic.proofs.Tellings.{begins_telling, command_keeps, quiet_keeps, result_keeps}
use Rattle.dm_atomic.proofs.laws.what_was_started_is_told.Goals as goal

pub returns-clause-begins : goal.returns-clause-begins
returns-clause-begins c = begins_telling

pub returns-clause-command : goal.returns-clause-command
returns-clause-command c = command_keeps

pub returns-clause-quiet : goal.returns-clause-quiet
returns-clause-quiet c = quiet_keeps

pub returns-clause-result : goal.returns-clause-result
returns-clause-result c = result_keeps
