use Rattle.std.proofs.Common.{sym, ◌∙◌}
use Rattle.dm_replay.proofs.Over.{event_over, end_over, event_fails, line_is_no_fault}
use Rattle.dm_replay.proofs.Saying.{is_of}
use Rattle.dm_replay.proofs.reading.next_event.Goals as goal

pub returns-then-not-is_end-clause-account : goal.returns-then-not-is_end-clause-account
returns-then-not-is_end-clause-account g c =
    is_of c.args.version _ c.line.result.now c.in-Ok-read_event.event c.in-Ok-read_event.ensures
    (sym c.is_end.ensures ∙ c.if-not-is_end.true)

pub returns-in-Err-clause-over : goal.returns-in-Err-clause-over
returns-in-Err-clause-over g c =
    λ failed. event_fails c.args.lines.now (g.S.Source.left c.args.src.now) (g.S.Source.left c.next_line.new.src)
    c.args.version c.args.ids.now c.args.number (c.in-Err.ensures.over failed)

pub returns-in-Err-read_event-clause-over : goal.returns-in-Err-read_event-clause-over
returns-in-Err-read_event-clause-over g c =
    λ failed. absurd (line_is_no_fault c.args.number c.in-Err-read_event.error (sym c.halt_at.ensures ∙ failed))

pub returns-then-not-is_end-clause-over : goal.returns-then-not-is_end-clause-over
returns-then-not-is_end-clause-over g c =
    event_over c.args.lines.now c.next_line.new.lines (g.S.Source.left c.args.src.now)
    (g.S.Source.left c.next_line.new.src) c.args.version c.args.ids.now c.args.number
    c.next_line.new.lines.line c.line.result.now c.in-Ok-read_event.event c.line.ensures c.in-Ok-read_event.ensures
    (sym c.is_end.ensures ∙ c.if-not-is_end.true) c.in-Ok.ensures.over

pub returns-clause-over : goal.returns-clause-over
returns-clause-over g c =
    end_over c.args.lines.now c.next_line.new.lines (g.S.Source.left c.args.src.now)
    (g.S.Source.left c.next_line.new.src) c.args.version c.args.ids.now c.args.number
    c.next_line.new.lines.line c.line.result.now c.in-Ok-read_event.event c.line.ensures c.in-Ok-read_event.ensures
    (sym c.is_end.ensures ∙ c.if-not-is_end.false) c.in-Ok.ensures.over
