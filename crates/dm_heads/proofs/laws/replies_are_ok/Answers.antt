use Rattle.dm_heads.proofs.Holding.{reply_holds, ok_replies_bring}
use Rattle.dm_heads.proofs.laws.replies_are_ok.Goals as goal

pub returns-clause-only : goal.returns-clause-only
returns-clause-only c = reply_holds

pub returns-clause-each : goal.returns-clause-each
returns-clause-each c = ok_replies_bring
