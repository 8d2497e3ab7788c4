use Rattle.dm_heads.proofs.HeadLemmas.{so_far_of_reply, so_far_of_request}
use Rattle.dm_heads.proofs.heads.head_so_far.Goals as goal

pub returns-in-Reply : goal.returns-in-Reply
returns-in-Reply c = so_far_of_reply c.args.kind c.args.bytes.now c.reply_so_far.result c.in-Reply.is c.reply_so_far.ensures

pub returns-in-Request : goal.returns-in-Request
returns-in-Request c = so_far_of_request c.args.kind c.args.bytes.now c.request_so_far.result c.in-Request.is c.request_so_far.ensures
