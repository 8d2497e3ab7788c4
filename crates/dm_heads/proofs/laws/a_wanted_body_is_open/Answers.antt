use Rattle.dm_heads.proofs.OneAnswer.{wanted_is_unsettled}
use Rattle.dm_heads.proofs.laws.a_wanted_body_is_open.Goals as goal

pub returns : goal.returns
returns c = wanted_is_unsettled
