use Rattle.dm_replay.proofs.Fronts.{line_leads, bad_stops, error_stops, asked_halts}
use Rattle.dm_replay.proofs.Over.{line_over, none_whole}
use Rattle.dm_replay.proofs.reading.next_line.Goals as goal

pub returns-in-Ok-Line-clause-line : goal.returns-in-Ok-Line-clause-line
returns-in-Ok-Line-clause-line g c =
    line_leads _ _ _ _ c.next.new.self.line (rw c.in-Ok-Line.field-0-is at c.in-Ok-Line.ensures.line)
    (rw c.in-Ok-Line.field-0-is at c.in-Ok-Line.ensures.room)

pub returns-in-Ok-Bad-clause-halt : goal.returns-in-Ok-Bad-clause-halt
returns-in-Ok-Bad-clause-halt g c =
    bad_stops _ _ _ c.args.number c.next.new.self.line c.in-Ok-Bad.reason
    (rw c.in-Ok-Bad.field-0-is at c.in-Ok-Bad.ensures.line)

pub returns-in-Err-clause-halt : goal.returns-in-Err-clause-halt
returns-in-Err-clause-halt g c =
    rw c.halt_of.ensures (error_stops _ _ _ c.args.number c.next.new.self.line c.in-Err.error c.in-Err.ensures.line)

pub returns-in-Err-clause-asked : goal.returns-in-Err-clause-asked
returns-in-Err-clause-asked g c =
    rw c.halt_of.ensures (asked_halts _ c.in-Err.error c.in-Err.ensures.asked)

pub returns-in-Ok-Line-clause-over : goal.returns-in-Ok-Line-clause-over
returns-in-Ok-Line-clause-over g c =
    line_over c.args.lines.now c.next.new.self (g.S.Source.left c.args.src.now) (g.S.Source.left c.next.new.src)
    c.next.new.self.line (rw c.in-Ok-Line.field-0-is at c.in-Ok-Line.ensures.line) c.in-Ok-Line.ensures.taken
    (rw c.in-Ok-Line.field-0-is at c.in-Ok-Line.ensures.room)

pub returns-in-Err-clause-over : goal.returns-in-Err-clause-over
returns-in-Err-clause-over g c =
    rw c.halt_of.ensures (none_whole c.args.lines.now c.next.new.self (g.S.Source.left c.args.src.now)
    (g.S.Source.left c.next.new.src) c.in-Err.error c.in-Err.ensures.line c.in-Err.ensures.taken
    c.in-Err.ensures.no_line)
