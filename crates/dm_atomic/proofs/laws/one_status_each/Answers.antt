use Rattle.dm_atomic.proofs.OneStatus.{none_lost, none_lost_in_quiet}
use Rattle.dm_atomic.proofs.laws.one_status_each.Goals as goal

pub returns-clause-run : goal.returns-clause-run
returns-clause-run c = none_lost

pub returns-clause-quiet : goal.returns-clause-quiet
returns-clause-quiet c = none_lost_in_quiet
