use Rattle.dm_atomic.proofs.GivenUps.{unbroken_gives}
use Rattle.dm_atomic.specs.Marks.{whole_of}
use Rattle.dm_atomic.proofs.Staying.{committed_ok}
use Rattle.dm_atomic.proofs.engine.Engine.break_group.Goals as goal

pub returns-then-not-self-clause-gives : goal.returns-then-not-self-clause-gives
returns-then-not-self-clause-gives c = unbroken_gives c.args.self.now c.args.out.now c.if-not-self.true

pub returns-clause-committed : goal.returns-clause-committed
returns-clause-committed c =
    committed_ok c.break_open.result (whole_of c.args.self.now) (whole_of c.break_open.new.self)
    c.break_open.ensures.base
    c.break_open.ensures.committed
