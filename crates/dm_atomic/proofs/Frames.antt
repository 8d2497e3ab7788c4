-- Lemmas that carry what stays, and what is told, over the calls that a function makes, by one name for each set.
use Rattle.dm_atomic.proofs.Held.{holds_self, holds_then, holds_next, holds_inbox}
use Rattle.dm_atomic.proofs.Staying.{stay_self, stay_then, stay_more, none_then, then_none}
use Rattle.dm_atomic.proofs.Telling.{told_both, nothing_more, some_more}

-- marks are held
pub ruleset holding = (holds_self, holds_then)

-- marks are held, and the inbox is another
pub ruleset holding_inbox = (holds_then, holds_self, holds_next, holds_inbox)

-- ids stay
pub ruleset staying = (stay_self, stay_then, none_then, then_none)

-- ids stay but those that a step moves
pub ruleset staying_in_step = (stay_self, then_none, stay_more)

-- marks are held, and ids stay
pub ruleset keeping = (holding, staying)

-- marks are held, and ids stay but those that a step moves
pub ruleset keeping_in_step = (holding, staying_in_step)

-- what is told is told one behind the other
pub ruleset telling = (told_both, nothing_more, some_more)
