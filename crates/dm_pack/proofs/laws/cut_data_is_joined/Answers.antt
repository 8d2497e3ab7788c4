use Rattle.dm_pack.proofs.TakenMost.{cut_data_is_joined}
use Rattle.dm_pack.proofs.laws.cut_data_is_joined.Goals as goal

pub returns : goal.returns
returns c = cut_data_is_joined
