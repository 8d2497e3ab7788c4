use Rattle.dm_heads.proofs.Holding.{reply_status_holds, no_request_status}
use Rattle.dm_heads.proofs.laws.statuses_are_told.Goals as goal

pub returns-clause-reply : goal.returns-clause-reply
returns-clause-reply c = reply_status_holds

pub returns-clause-request : goal.returns-clause-request
returns-clause-request c = no_request_status
