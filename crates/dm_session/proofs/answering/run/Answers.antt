use Rattle.std.proofs.Common.{sym, ◌∙◌}
use Rattle.dm_session.proofs.Outcomes.{ran_executes}
use Rattle.dm_session.proofs.answering.run.Goals as goal

pub returns-clause-ran : goal.returns-clause-ran
returns-clause-ran c m e k l =
    ran_executes m c.args.account.now c.args.message c.args.code c.args.engine.now _ c.as_slice.result.now
    c.in_ok-made.made _
    (sym c.passes.ensures ∙ c.if-not-passes.false) e k l c.in_ok-made.ensures c.as_slice.ensures
    c.in_ok-execute.ensures.gives
