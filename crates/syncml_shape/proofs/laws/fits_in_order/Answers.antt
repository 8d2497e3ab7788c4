use Rattle.syncml_shape.proofs.Orders.{fits_in_order as law}
use Rattle.syncml_shape.proofs.laws.fits_in_order.Goals as goal

pub returns : goal.returns
returns c = law
