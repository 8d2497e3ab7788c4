use Rattle.syncml_shape.proofs.Judging.{closing_is_fit as law}
use Rattle.syncml_shape.proofs.laws.closing_is_fit.Goals as goal

pub returns : goal.returns
returns c = law
