use Rattle.dm_atomic.specs.Marks.{whole_of}
use Rattle.dm_atomic.specs.Stays.{covers}
use Rattle.dm_atomic.proofs.Staying.{stay_more, kept_closed}
use Rattle.dm_atomic.proofs.engine.Engine.run.Goals as goal

pub returns-in-Plain-clause-kept : goal.returns-in-Plain-clause-kept
returns-in-Plain-clause-kept c = λ closed.
    kept_closed (covers c.args.command.now) c.args.self.now c.run_plain.new.self
    (rw c.in-Plain.is c.run_plain.ensures.ids) closed

pub returns-in-Atomic-clause-kept : goal.returns-in-Atomic-clause-kept
returns-in-Atomic-clause-kept c = λ closed.
    kept_closed (covers c.args.command.now) c.args.self.now c.run_atomic.new.self
    (rw c.in-Atomic.is c.run_atomic.ensures.ids) closed

pub returns-in-Sequence-clause-kept : goal.returns-in-Sequence-clause-kept
returns-in-Sequence-clause-kept c = λ closed.
    kept_closed (covers c.args.command.now) c.args.self.now c.run_sequence.new.self
    (rw c.in-Sequence.is c.run_sequence.ensures.ids) closed

pub returns-in-Alert-clause-kept : goal.returns-in-Alert-clause-kept
returns-in-Alert-clause-kept c = λ closed.
    kept_closed (covers c.args.command.now) c.args.self.now c.run_alert.new.self
    (stay_more (covers c.args.command.now) (whole_of c.args.self.now) (whole_of c.run_alert.new.self)
    c.run_alert.ensures.ids) closed
