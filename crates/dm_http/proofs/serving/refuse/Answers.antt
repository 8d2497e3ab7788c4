use Rattle.std.proofs.Common.{inl, inr, refl}
use Rattle.dm_http.specs.Replies.{refusal_reply}
use Rattle.dm_http.proofs.serving.refuse.Goals as goal

pub returns-in-Ok-clause-bytes : goal.returns-in-Ok-clause-bytes
unfolding refusal_reply
returns-in-Ok-clause-bytes g c = inl (refl, c.in-Ok.ensures.bytes)

pub returns-in-Err-clause-bytes : goal.returns-in-Err-clause-bytes
unfolding refusal_reply
returns-in-Err-clause-bytes g c = inr c.in-Err.ensures.bytes
