use Rattle.dm_atomic.specs.Marks.{whole_of}
use Rattle.dm_atomic.proofs.engine.Engine.show_committed.Goals as goal

pub returns-then-self-clause-recalls : goal.returns-then-self-clause-recalls
returns-then-self-clause-recalls c =
    c.roll_back.ensures.marks.marks c.mark-mark.result (whole_of c.args.self.now) c.mark-mark.ensures.recalls
