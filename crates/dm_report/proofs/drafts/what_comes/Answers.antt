use Rattle.dm_report.proofs.InboxLemmas.{takes-comes}
use Rattle.dm_report.proofs.drafts.what_comes.Goals as goal

pub returns-clause-ok : goal.returns-clause-ok
returns-clause-ok c = takes-comes _ _ _ c.in_ok-taken.taken c.in_ok-taken.ensures.ok
