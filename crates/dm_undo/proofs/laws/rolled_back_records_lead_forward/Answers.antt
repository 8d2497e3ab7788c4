use Rattle.dm_undo.proofs.Returns.{rolled_back_records_lead_forward as law}
use Rattle.dm_undo.proofs.laws.rolled_back_records_lead_forward.Goals as goal

pub returns : goal.returns
returns c = law
