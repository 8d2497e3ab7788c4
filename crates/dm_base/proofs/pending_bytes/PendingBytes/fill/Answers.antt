use Rattle.std.proofs.Common.{ap, ◌∙◌, ◌+◌, ◌++◌, subst, take, drop, length, slice_range, Ok}
use Rattle.dm_base.specs.Lines.{PutsPending}
use Rattle.dm_base.proofs.Pending.{put_pending}
use Rattle.dm_base.proofs.pending_bytes.PendingBytes.fill.Goals as goal

pub returns-in-Ok-clause-bytes : goal.returns-in-Ok-clause-bytes
returns-in-Ok-clause-bytes g c =
    let inside = c.self.inside in
    let items = inside.held.items in
    let room = c.take_into.new.room in
    let left = g.S.Source.left c.args.src.now in
    let rest = g.S.Source.left c.take_into.new.src in
    let pending = ap (λ s. s.bytes) c.self.view_is ∙ c.make_room.ensures.bytes ∙ c.close_gap.ensures.bytes in
    let same = c.take_into.ensures.front ∙ ap (take inside.end) c.as_mut_slice.ensures.value in
    subst (λ old. PutsPending old
    (slice_range (take inside.held.len (room ++ drop (length room) items)) inside.given (inside.end + c.in-Ok.taken))
    left rest c.args.count (Ok c.in-Ok.taken)) pending
    (put_pending items room items inside.given inside.end c.in-Ok.taken c.args.count inside.held.len left rest
    c.self.invariant.2 (c.take_into.ensures.length ∙ c.as_mut_slice.ensures.len) same c.in-Ok.ensures.bytes)
