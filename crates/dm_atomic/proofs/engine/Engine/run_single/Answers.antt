use Rattle.dm_atomic.specs.Marks.{whole_of}
use Rattle.dm_atomic.proofs.Covering.{one_stays}
use Rattle.dm_atomic.proofs.engine.Engine.run_single.Goals as goal

pub returns-in-One-clause-ids : goal.returns-in-One-clause-ids
returns-in-One-clause-ids c =
    one_stays c.args.member.now c.in-One.command (whole_of c.args.self.now) (whole_of c.run_plain.new.self)
    c.in-One.is c.run_plain.ensures.ids
