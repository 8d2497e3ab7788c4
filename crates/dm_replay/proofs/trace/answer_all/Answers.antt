use Rattle.dm_replay.proofs.Asked.{client_answers}
use Rattle.dm_replay.proofs.Running.{nothing_put, client_ends}
use Rattle.dm_replay.proofs.trace.answer_all.Goals as goal

pub returns-in-Err-clause-output : goal.returns-in-Err-clause-output
returns-in-Err-clause-output g c = nothing_put _ c.args.started _

pub returns-in-Ok-new-clause-output : goal.returns-in-Ok-new-clause-output
returns-in-Ok-new-clause-output g c =
    client_ends _ c.args.started _ _ _ _ _ c.in-Ok-new.ensures.machine c.in-Ok.ensures c.answer_events.ensures.output

pub returns-clause-output : goal.returns-clause-output
returns-clause-output g c = nothing_put _ c.args.started _

pub returns-in-Ok-new-clause-answered : goal.returns-in-Ok-new-clause-answered
returns-in-Ok-new-clause-answered g c =
    λ is. client_answers c.args.started _ _ c.args.lines.now (g.S.Source.left c.args.src.now)
    (g.S.Source.left c.answer_events.new.src) (g.K.Sink.got c.args.out.now) (g.K.Sink.got c.answer_events.new.out)
    c.in-Ok-new.ensures.machine c.in-Ok.ensures (c.answer_events.ensures.answered is)
