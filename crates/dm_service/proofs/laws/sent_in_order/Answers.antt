use Rattle.dm_service.proofs.Order.{sent_in_order}
use Rattle.dm_service.proofs.laws.sent_in_order.Goals as goal

pub returns : goal.returns
returns c = sent_in_order
