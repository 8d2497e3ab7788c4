use Rattle.dm_server.specs.declared.answers.ServerAnswer.TheVariants as served
use Rattle.dm_pair.proofs.Wording.{word_said}
use Rattle.dm_pair.proofs.words.server_word.Goals as goal

pub returns-in-Sent : goal.returns-in-Sent
returns-in-Sent c v a told = word_said c.args.answer served.Sent v a c.in-Sent.is told

pub returns-in-Kept : goal.returns-in-Kept
returns-in-Kept c v a told = word_said c.args.answer served.Kept v a c.in-Kept.is told

pub returns-in-Stale : goal.returns-in-Stale
returns-in-Stale c v a told = word_said c.args.answer served.Stale v a c.in-Stale.is told

pub returns-in-Stranger : goal.returns-in-Stranger
returns-in-Stranger c v a told = word_said c.args.answer served.Stranger v a c.in-Stranger.is told

pub returns-in-Refused : goal.returns-in-Refused
returns-in-Refused c v a told =
    word_said c.args.answer (served.Refused c.in-Refused.field-0) v a c.in-Refused.is told

pub returns-in-Ended : goal.returns-in-Ended
returns-in-Ended c v a told = word_said c.args.answer served.Ended v a c.in-Ended.is told
