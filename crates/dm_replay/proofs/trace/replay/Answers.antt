use Rattle.dm_start.specs.Start.{told_of}
use Rattle.dm_replay.proofs.Asked.{begun_puts, unbegun_puts, puts_taken, halt_fault}
use Rattle.dm_replay.proofs.Ended.{halt_of_text, halt_not_done, ended_later}
use Rattle.dm_replay.proofs.Whole.{all_events_replay, all_halts_replay}
use Rattle.dm_replay.proofs.Taken.{one_past, one_past_then}
use Rattle.dm_replay.proofs.trace.replay.Goals as goal

pub returns-in-Ok-clause-output : goal.returns-in-Ok-clause-output
returns-in-Ok-clause-output g c =
    all_events_replay c.new-lines.result _ _ c.in-Ok.started _ _ _ c.new-lines.ensures c.in-Ok.ensures.start
    c.answer_all.ensures.output

pub returns-clause-output : goal.returns-clause-output
returns-clause-output g c =
    all_halts_replay c.new-lines.result _ c.in-Err.halt _ _ _ c.new-lines.ensures c.in-Err.ensures.start
    c.put_halt.ensures.bytes

pub returns-in-Ok-clause-taken : goal.returns-in-Ok-clause-taken
returns-in-Ok-clause-taken g c =
    one_past_then _ _ _ c.new-lines.result c.read_start.new.lines c.answer_all.new.lines c.new-lines.ensures
    c.in-Ok.ensures.taken
    c.answer_all.ensures.taken c.answer_all.ensures.limit

pub returns-clause-taken : goal.returns-clause-taken
returns-clause-taken g c =
    one_past _ _ c.new-lines.result c.read_start.new.lines c.new-lines.ensures c.in-Err.ensures.taken
    c.in-Err.ensures.limit

pub returns-in-Ok-clause-answered : goal.returns-in-Ok-clause-answered
returns-in-Ok-clause-answered g c =
    let left = g.S.Source.left in
    let got = g.K.Sink.got in
    let last = c.answer_all.new in
    λ is. puts_taken c.new-lines.result (left c.args.src.now) (left last.src) (got c.args.out.now) (got last.out)
    c.new-lines.ensures
    (begun_puts c.new-lines.result c.read_start.new.lines (left c.args.src.now) (left c.read_start.new.src)
    (left last.src) (got c.args.out.now) (got last.out) c.in-Ok.started.number (told_of c.in-Ok.started.start)
    c.in-Ok.ensures.over (c.answer_all.ensures.answered is))

pub returns-clause-answered : goal.returns-clause-answered
returns-clause-answered g c = λ is.
    let left = g.S.Source.left in
    let got = g.K.Sink.got in
    let fault = halt_fault c.in-Err.halt _ _ _ c.put_halt.ensures.bytes is in
    puts_taken c.new-lines.result (left c.args.src.now) (left c.read_start.new.src) (got c.args.out.now)
    (got c.put_halt.new.out) c.new-lines.ensures
    (unbegun_puts c.new-lines.result (left c.args.src.now) (left c.read_start.new.src) (got c.args.out.now)
    (got c.put_halt.new.out) fault.1 (c.in-Err.ensures.over fault.0))

pub returns-in-Ok-clause-ended : goal.returns-in-Ok-clause-ended
returns-in-Ok-clause-ended g c =
    ended_later _ (g.S.Source.left c.read_start.new.src) _ c.new-lines.result.taken c.read_start.new.lines.taken
    c.answer_all.result c.in-Ok.ensures.taken c.answer_all.ensures.ended

pub returns-clause-kind : goal.returns-clause-kind
returns-clause-kind g c = halt_of_text c.in-Err.halt _ _ _ c.put_halt.ensures.bytes

pub returns-clause-ended : goal.returns-clause-ended
returns-clause-ended g c = λ is. absurd (halt_not_done c.in-Err.halt _ _ _ c.put_halt.ensures.bytes is)
