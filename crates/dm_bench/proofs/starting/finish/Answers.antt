use Rattle.std.proofs.Common.{ap, ◌∙◌, Ok}
use Rattle.dm_bench.proofs.Beginning.{may_begin}
use Rattle.dm_bench.proofs.starting.finish.Goals as goal

pub returns-in-Ok-true-clause-told : goal.returns-in-Ok-true-clause-told
returns-in-Ok-true-clause-told c = c.in-Ok-true.ensures.read ∙ ap Ok c.finish.ensures.told

pub returns-in-Ok-true-clause-client : goal.returns-in-Ok-true-clause-client
returns-in-Ok-true-clause-client c = may_begin c.finish.result c.finish.ensures.sound c.finish.ensures.parked
