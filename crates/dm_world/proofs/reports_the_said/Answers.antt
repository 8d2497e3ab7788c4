use Rattle.dm_world.proofs.Said.{reports_the_said}
use Rattle.dm_world.proofs.reports_the_said.Goals as goal

pub returns : goal.returns
returns c = reports_the_said
