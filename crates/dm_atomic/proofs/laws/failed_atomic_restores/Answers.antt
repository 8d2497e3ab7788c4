use Rattle.dm_atomic.proofs.Restores.{restores, broken_restores, quiet_restores, joining_keeps, alerts_leave}
use Rattle.dm_atomic.proofs.laws.failed_atomic_restores.Goals as goal

pub returns-clause-failed : goal.returns-clause-failed
returns-clause-failed c = restores

pub returns-clause-broken : goal.returns-clause-broken
returns-clause-broken c = broken_restores

pub returns-clause-quiet : goal.returns-clause-quiet
returns-clause-quiet c = quiet_restores

pub returns-clause-joining : goal.returns-clause-joining
returns-clause-joining c = joining_keeps

pub returns-clause-alert : goal.returns-clause-alert
returns-clause-alert c = alerts_leave
