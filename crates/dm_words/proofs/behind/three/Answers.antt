use Rattle.std.proofs.Common.{rules, string_bytes}
use Rattle.dm_words.proofs.Words.{fewer_than_three, more_than_three}
use Rattle.dm_words.proofs.behind.three.Goals as goal
use Rattle.dm_words.proofs.behind.three.Goals.{in_default-via-then-words-lt3}
use Rattle.dm_words.proofs.behind.three.Goals.{in_default-via-else-words-lt3+else-words-lt4}

pub returns-in_default-clause-form : goal.returns-in_default-clause-form
returns-in_default-clause-form c = elim c.in_default.branch [
  | in_default-via-then-words-lt3 w ↦ fewer_than_three string_bytes c.args.words.now (search rules)
  | in_default-via-else-words-lt3+else-words-lt4 w ↦ more_than_three string_bytes c.args.words.now (search rules)
]
