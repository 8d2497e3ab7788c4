use Rattle.dm_objects.proofs.Together.{wholes_are_put_together}
use Rattle.dm_objects.proofs.laws.wholes_are_put_together.Goals as goal

pub returns : goal.returns
returns c = wholes_are_put_together
