use Rattle.dm_replay.proofs.Ended.{source_ended}
use Rattle.dm_replay.proofs.Fronts.{line_behind, bad_behind, error_behind, asked_halts}
use Rattle.dm_replay.proofs.Over.{none_whole}
use Rattle.dm_replay.proofs.reading.read_end.Goals as goal

pub returns-in-Ok-Line-clause-ending : goal.returns-in-Ok-Line-clause-ending
returns-in-Ok-Line-clause-ending g c =
    line_behind _ _ _ c.args.number c.next.new.self.line (rw c.in-Ok-Line.field-0-is at c.in-Ok-Line.ensures.line)

pub returns-in-Ok-Bad-clause-ending : goal.returns-in-Ok-Bad-clause-ending
returns-in-Ok-Bad-clause-ending g c =
    bad_behind _ _ _ c.args.number c.next.new.self.line c.in-Ok-Bad.field-0-0
    (rw c.in-Ok-Bad.field-0-is at c.in-Ok-Bad.ensures.line)

pub returns-in-Err-clause-ending : goal.returns-in-Err-clause-ending
returns-in-Err-clause-ending g c =
    rw c.halt_of.ensures (error_behind _ _ _ c.args.number c.next.new.self.line c.in-Err.error c.in-Err.ensures.line)

pub returns-in-Err-clause-asked : goal.returns-in-Err-clause-asked
returns-in-Err-clause-asked g c = rw c.halt_of.ensures (asked_halts _ c.in-Err.error c.in-Err.ensures.asked)

pub returns-in-Err-clause-none : goal.returns-in-Err-clause-none
returns-in-Err-clause-none g c =
    rw c.halt_of.ensures (none_whole c.args.lines.now c.next.new.self (g.S.Source.left c.args.src.now)
    (g.S.Source.left c.next.new.src) c.in-Err.error c.in-Err.ensures.line c.in-Err.ensures.taken
    c.in-Err.ensures.no_line)

pub returns-in-Ok-End-clause-ended : goal.returns-in-Ok-End-clause-ended
returns-in-Ok-End-clause-ended g c =
    let line = rw c.in-Ok-End.field-0-is at c.in-Ok-End.ensures.line in
    source_ended c.args.lines.now c.next.new.self (g.S.Source.left c.args.src.now) (g.S.Source.left c.next.new.src)
    line.0 line.1
