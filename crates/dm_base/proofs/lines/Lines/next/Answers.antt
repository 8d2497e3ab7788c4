use Rattle.std.proofs.Common.{arith, ap, ◌∙◌, length}
use Rattle.dm_base.proofs.Pending.{filled_within, filled_clear, filled_ahead, filled_taken, filled_room, found_at}
use Rattle.dm_base.proofs.Pending.{none_found, feed_missed, long_line, line_stops}
use Rattle.dm_base.proofs.Pending.{taken_at_error}
use Rattle.dm_base.proofs.lines.Lines.next.Goals as goal

pub pieces-preserved : goal.pieces-preserved
pieces-preserved g c =
    let filled = c.in-Ok-true.ensures.bytes in
    let more = c.in-Ok-true.field-0-test in
    let looked = c.as_slice.ensures ∙ ap (λ s. s.pending) c.self.view_is in
    let all = c.len-scanned.ensures ∙ ap (λ s. length s.pending) c.self.view_is in
    let clear =
    none_found c.pieces.self.pending _ c.pieces.scanned _ looked all c.pieces.invariant.clear c.in-None.ensures in
    record {
      within = filled_within c.pieces.self _ _ _ _ _ more filled all;
      clear = filled_clear c.pieces.self _ _ _ _ _ more filled all clear;
      kept = filled_ahead _ c.pieces.self _ _ _ _ more filled c.pieces.invariant.kept;
      taken = filled_taken _ c.pieces.self _ _ _ _ _ more filled c.pieces.invariant.taken;
      room = filled_room c.pieces.self _ _ _ _ more filled ∙ c.pieces.invariant.room;
      count = c.in-Ok-true.ensures.count ∙ c.pieces.invariant.count;
      unasked = λ feed. feed_missed _ c.pieces.self _ feed all clear c.pieces.invariant.unasked;
      sink = c.fill.ensures.sink ∙ c.pieces.invariant.sink;
    }

pub returns-in-Some-clause-line : goal.returns-in-Some-clause-line
returns-in-Some-clause-line g c =
    let looked = c.as_slice.ensures ∙ ap (λ s. s.pending) c.self.view_is in
    let found =
    found_at c.pieces.self.pending _ c.pieces.scanned c.in-Some.at looked c.pieces.invariant.clear c.in-Some.ensures in
    long_line _ _ c.pieces.self c.in-Some.at _ (omega (arith, found.0)) c.if-at-gt-LINE_LIMIT.true found.2
    c.pieces.invariant.room c.pieces.invariant.kept

pub returns-in-Err-clause-line : goal.returns-in-Err-clause-line
returns-in-Err-clause-line g c =
    let looked = c.as_slice.ensures ∙ ap (λ s. s.pending) c.self.view_is in
    let all = c.len-scanned.ensures ∙ ap (λ s. length s.pending) c.self.view_is in
    let clear =
    none_found c.pieces.self.pending _ c.pieces.scanned _ looked all c.pieces.invariant.clear c.in-None.ensures in
    line_stops _ _ _ c.args.self.now c.pieces.self _ _ _ c.in-Err.ensures.bytes all
    c.if-scanned-gt-LINE_LIMIT.false clear c.pieces.invariant.room c.pieces.invariant.kept

pub returns-in-Err-clause-taken : goal.returns-in-Err-clause-taken
returns-in-Err-clause-taken g c = taken_at_error _ _ _ c.pieces.self _ _ _ c.in-Err.ensures.bytes c.pieces.invariant.taken
