use Rattle.syncml_shape.proofs.AnyOrder.{fits_meta as law}
use Rattle.syncml_shape.proofs.laws.fits_meta.Goals as goal

pub returns : goal.returns
returns c = law
