use Rattle.std.proofs.Common.{sym, ap, subst}
use Rattle.dm_core.specs.Machines.{TellsReply}
use Rattle.dm_http.specs.Replies.{over_reply, refusal_reply, reply_bytes}
use Rattle.dm_http.proofs.Served.{put_known}
use Rattle.dm_http.proofs.serving.put_reply.Goals as goal

pub returns-in-Over-clause-bytes : goal.returns-in-Over-clause-bytes
unfolding over_reply
returns-in-Over-clause-bytes g c = λ r tells.
    put_known _ _ _ _ _ (sym (ap reply_bytes (subst (λ x. TellsReply x (g.X.Core.sent c.args.core.now) r) c.in-Over.is tells)))
    c.put_text-in-Over.ensures.bytes

pub returns-in-Bad-clause-bytes : goal.returns-in-Bad-clause-bytes
unfolding refusal_reply
returns-in-Bad-clause-bytes g c = λ r tells.
    put_known _ _ _ _ _ (sym (ap reply_bytes (subst (λ x. TellsReply x (g.X.Core.sent c.args.core.now) r) c.in-Bad.is tells)))
    c.put_text-in-Bad.ensures.bytes
