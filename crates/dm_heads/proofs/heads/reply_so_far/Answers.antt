use Rattle.std.proofs.Common.{rules, arith}
use Rattle.dm_heads.proofs.HeadLemmas.{whole_reply}
use Rattle.dm_heads.proofs.heads.reply_so_far.Goals as goal

pub returns-in-Ok-Complete : goal.returns-in-Ok-Complete
returns-in-Ok-Complete c =
    let within = rw c.in-Ok-Complete.field-0-is at c.in-Ok-Complete.ensures.within in
    let complete = rw c.in-Ok-Complete.field-0-is at c.in-Ok-Complete.ensures.complete in
    whole_reply c.args.bytes.now c.parse_response.new.headers c.in-Ok-Complete.head _ c.requires (first_of (search rules, grind arith))
    within complete c.reply_verdict.ensures
