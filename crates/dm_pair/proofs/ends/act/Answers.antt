use Rattle.dm_pair.proofs.Wording.{done_words, unready_words}
use Rattle.dm_pair.proofs.ends.act.Goals as goal

pub returns-in-Done-clause-words : goal.returns-in-Done-clause-words
returns-in-Done-clause-words c = done_words _ (rw c.in-Done.is at c.in_ok-acted.ensures.answer)

pub returns-in-NotNow-clause-words : goal.returns-in-NotNow-clause-words
returns-in-NotNow-clause-words c = unready_words _ (rw c.in-NotNow.is at c.in_ok-acted.ensures.answer)
