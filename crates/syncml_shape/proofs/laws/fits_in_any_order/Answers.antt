use Rattle.syncml_shape.proofs.AnyOrder.{fits_in_any_order as law}
use Rattle.syncml_shape.proofs.laws.fits_in_any_order.Goals as goal

pub returns : goal.returns
returns c = law
