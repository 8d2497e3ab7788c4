use Rattle.syncml_shape.proofs.Orders.{document_in_order as law}
use Rattle.syncml_shape.proofs.laws.document_in_order.Goals as goal

pub returns : goal.returns
returns c = law
