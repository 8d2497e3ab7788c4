use Rattle.std.proofs.Common.{sym}
use Rattle.dm_replay.proofs.Answering.{loss_keeps}
use Rattle.dm_pair.proofs.Wording.{again_words, nobody_words}
use Rattle.dm_pair.proofs.ends.lose.Goals as goal

pub returns-in-Some-clause-words : goal.returns-in-Some-clause-words
returns-in-Some-clause-words c = again_words _ _ c.in-Some.ensures

pub returns-in-Some-clause-client : goal.returns-in-Some-clause-client
returns-in-Some-clause-client c = sym (loss_keeps _)

pub returns-in-None-clause-words : goal.returns-in-None-clause-words
returns-in-None-clause-words c = nobody_words _ c.in-None.ensures

pub returns-in-None-clause-client : goal.returns-in-None-clause-client
returns-in-None-clause-client c = sym (loss_keeps _)
