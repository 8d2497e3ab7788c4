use Rattle.std.proofs.Common.{◌∙◌}
use Rattle.dm_session.specs.declared.answers.Answer.TheVariants as answers
use Rattle.dm_pair.proofs.Wording.{words_said}
use Rattle.dm_pair.proofs.words.client_words.Goals as goal

pub returns-in-Sent : goal.returns-in-Sent
returns-in-Sent c m a told = words_said c.args.answer answers.Sent m a c.in-Sent.is told

pub returns-in-Kept : goal.returns-in-Kept
returns-in-Kept c m a told = words_said c.args.answer answers.Kept m a c.in-Kept.is told

pub returns-in-Stale : goal.returns-in-Stale
returns-in-Stale c m a told = words_said c.args.answer (answers.Stale c.in-Stale.last) m a c.in-Stale.is told

pub returns-in-Stranger : goal.returns-in-Stranger
returns-in-Stranger c m a told = words_said c.args.answer answers.Stranger m a c.in-Stranger.is told

pub returns-in-NoSession : goal.returns-in-NoSession
returns-in-NoSession c m a told = words_said c.args.answer answers.NoSession m a c.in-NoSession.is told

pub returns-in-Refused : goal.returns-in-Refused
returns-in-Refused c m a told =
    words_said c.args.answer (answers.Refused c.in-Refused.field-0) m a c.in-Refused.is told

pub returns-in-Ended : goal.returns-in-Ended
returns-in-Ended c m a told =
    c.ended_words.ensures ∙ words_said c.args.answer (answers.Ended c.in-Ended.end) m a c.in-Ended.is told
