use Rattle.dm_acl.proofs.Grammars.{printed_is_no_longer, printed_is_short, what_is_read_is_read_again}
use Rattle.dm_acl.proofs.laws.lists_that_are_read_are_short.Goals as goal

pub returns-clause-length : goal.returns-clause-length
returns-clause-length c = printed_is_no_longer

pub returns-clause-limit : goal.returns-clause-limit
returns-clause-limit c = printed_is_short

pub returns-clause-again : goal.returns-clause-again
returns-clause-again c = what_is_read_is_read_again
