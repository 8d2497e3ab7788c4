use Rattle.dm_heads.proofs.OneAnswer.{length_ends_body}
use Rattle.dm_heads.proofs.laws.a_length_ends_a_body.Goals as goal

pub returns : goal.returns
returns c = length_ends_body
