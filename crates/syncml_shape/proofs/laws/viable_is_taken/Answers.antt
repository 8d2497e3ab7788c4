use Rattle.syncml_shape.proofs.Judging.{viable_is_taken as law}
use Rattle.syncml_shape.proofs.laws.viable_is_taken.Goals as goal

pub returns : goal.returns
returns c = law
