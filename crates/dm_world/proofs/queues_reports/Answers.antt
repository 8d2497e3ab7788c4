use Rattle.dm_world.proofs.Returns.{queues_reports}
use Rattle.dm_world.proofs.queues_reports.Goals as goal

pub returns : goal.returns
returns c = queues_reports
