use Rattle.dm_atomic.specs.Engine.{state_of}
use Rattle.dm_atomic.proofs.GivenUps.{still_open, still_closed}
use Rattle.dm_atomic.proofs.engine.Engine.still.Goals as goal

pub returns-then-self-clause-gives : goal.returns-then-self-clause-gives
returns-then-self-clause-gives c =
    still_open c.args.self.now (state_of c.break_open.new.self) c.args.out.now c.break_open.new.out c.if-self.true
    c.in_ok-break_open.ensures.gives

pub returns-clause-gives : goal.returns-clause-gives
returns-clause-gives c =
    still_closed c.args.self.now c.quiet.new.self c.in_ok-target.target c.args.out.now c.put_notice.new.out
    c.if-self.false c.in_ok-target.ensures.ok c.in_ok-target.ensures.target c.in_ok-put_notice.ensures.ok
