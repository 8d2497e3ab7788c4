use Rattle.dm_atomic.specs.Engine.{state_of}
use Rattle.dm_atomic.proofs.Giving.{alone_steps}
use Rattle.dm_atomic.proofs.engine.Engine.one_alone.Goals as goal

pub returns-clause-gives : goal.returns-clause-gives
returns-clause-gives c =
    alone_steps c.args.self.now c.break_first.new.self c.args.caller.now (state_of c.args.self.now)
    (state_of c.one_step.new.self) c.args.task.now c.in_ok-report.report c.args.out.now c.break_first.new.out
    c.one_step.new.out c.put_own_report.new.out c.break_first.ensures.clock c.break_first.ensures.max_obj
    c.in_ok-break_first.ensures.gives c.in_ok-report.ensures.ok c.in_ok-put_own_report.ensures.ok
