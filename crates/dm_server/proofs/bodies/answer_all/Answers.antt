use Rattle.dm_server.proofs.Replies.{one_more}
use Rattle.dm_server.proofs.bodies.answer_all.Goals as goal

pub loop-command-preserved : goal.loop-command-preserved
loop-command-preserved c =
    one_more c.args.origin c.args.body.now c.loop-command.command-index c.command-item.result c.code_for.result _
    c.loop-command.out c.answer_each.new.out c.loop-command.invariant c.loop-command-test.true c.command-item.is
    c.code_for.ensures c.in_ok-answer_each.ensures.ok
