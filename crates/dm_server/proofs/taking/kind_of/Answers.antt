use Rattle.std.proofs.Common.{subst}
use Rattle.dm_server.specs.View.{Tells}
use Rattle.dm_server.proofs.Taken.{sent_tells, kept_tells}
use Rattle.dm_server.proofs.taking.kind_of.Goals as goal

pub returns-in-Sent : goal.returns-in-Sent
returns-in-Sent c = λ v a tells. sent_tells v.sent a (subst (λ x. Tells x v a) c.in-Sent.is tells)

pub returns-in-Kept : goal.returns-in-Kept
returns-in-Kept c = λ v a tells. kept_tells v.sent a (subst (λ x. Tells x v a) c.in-Kept.is tells)
