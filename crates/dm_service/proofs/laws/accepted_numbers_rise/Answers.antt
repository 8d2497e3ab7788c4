use Rattle.dm_service.proofs.History.{accepted_numbers_rise}
use Rattle.dm_service.proofs.laws.accepted_numbers_rise.Goals as goal

pub returns : goal.returns
returns c = accepted_numbers_rise
