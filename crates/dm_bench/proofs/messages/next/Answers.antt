use Rattle.dm_bench.proofs.Drawing.{word_is, rest_is}
use Rattle.dm_bench.proofs.messages.next.Goals as goal

pub returns-clause-word : goal.returns-clause-word
returns-clause-word c = word_is _ _ _ c.next_word.ensures

pub returns-clause-rest : goal.returns-clause-rest
returns-clause-rest c = rest_is _ _ _ c.next_word.ensures
