use Rattle.syncml_shape.proofs.Judging.{viable_is_open as law}
use Rattle.syncml_shape.proofs.laws.viable_is_open.Goals as goal

pub returns : goal.returns
returns c = law
