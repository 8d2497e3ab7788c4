use Rattle.syncml_shape.proofs.Judging.{fits_is_stepped as law}
use Rattle.syncml_shape.proofs.laws.fits_is_stepped.Goals as goal

pub returns : goal.returns
returns c = law
