use Rattle.dm_heads.proofs.OneAnswer.{one_answer_each}
use Rattle.dm_heads.proofs.laws.heads_have_one_answer.Goals as goal

pub returns : goal.returns
returns c = one_answer_each
