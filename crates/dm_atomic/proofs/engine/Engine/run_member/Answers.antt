use Rattle.dm_atomic.specs.Marks.{whole_of}
use Rattle.dm_atomic.proofs.Covering.{block_stay}
use Rattle.dm_atomic.proofs.engine.Engine.run_member.Goals as goal

pub returns-in-Atomic-clause-ids : goal.returns-in-Atomic-clause-ids
returns-in-Atomic-clause-ids c =
    block_stay c.args.member.now c.in-Atomic.block (whole_of c.args.self.now) (whole_of c.run_atomic.new.self)
    c.in-Atomic.is c.run_atomic.ensures.ids
