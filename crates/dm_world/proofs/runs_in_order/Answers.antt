use Rattle.dm_world.proofs.InOrder.{runs_in_order}
use Rattle.dm_world.proofs.runs_in_order.Goals as goal

pub returns : goal.returns
returns c = runs_in_order
