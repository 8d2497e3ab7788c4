use Rattle.std.proofs.Common.{rules, string_bytes}
use Rattle.dm_words.proofs.Words.{fewer_than_five, more_than_five}
use Rattle.dm_words.proofs.behind.five.Goals as goal
use Rattle.dm_words.proofs.behind.five.Goals.{in_default-via-then-words-lt5}
use Rattle.dm_words.proofs.behind.five.Goals.{in_default-via-else-words-lt5+else-words-lt6}

pub returns-in_default-clause-form : goal.returns-in_default-clause-form
returns-in_default-clause-form c = elim c.in_default.branch [
  | in_default-via-then-words-lt5 w ↦ fewer_than_five string_bytes c.args.words.now (search rules)
  | in_default-via-else-words-lt5+else-words-lt6 w ↦ more_than_five string_bytes c.args.words.now (search rules)
]
