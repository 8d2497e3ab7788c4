use Rattle.std.proofs.Common.{Some, None, subst}
use Rattle.memchr.specs.Find.{IsFirstByte, is_byte}
use Rattle.dm_base.proofs.Pending.{feed_behind, none_behind, slice_behind}
use Rattle.dm_base.proofs.lines.feed_from.Goals as goal

pub returns-in-Some : goal.returns-in-Some
returns-in-Some c =
    let bytes = c.args.bytes.now in
    let from = c.args.from in
    feed_behind bytes from c.in-Some.at
    (subst (λ looked. IsFirstByte (is_byte 10) looked (Some c.in-Some.at)) (slice_behind bytes from) c.in-Some.ensures)

pub returns-in-None : goal.returns-in-None
returns-in-None c =
    let bytes = c.args.bytes.now in
    let from = c.args.from in
    none_behind bytes from
    (subst (λ looked. IsFirstByte (is_byte 10) looked None) (slice_behind bytes from) c.in-None.ensures)
