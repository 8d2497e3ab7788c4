use Rattle.std.proofs.Common.{◌∙◌}
use Rattle.dm_atomic.specs.Marks.{whole_of}
use Rattle.dm_atomic.proofs.Covering.{sequence_stay}
use Rattle.dm_atomic.proofs.engine.Engine.run_sequence.Goals as goal

pub returns-in_err-run_members-clause-ids : goal.returns-in_err-run_members-clause-ids
returns-in_err-run_members-clause-ids c =
    sequence_stay c.args.block.now c.as_mut_slice.result.now (whole_of c.args.self.now)
    (whole_of c.run_members.new.self) (c.as_mut_slice.ensures.value ∙ c.take_members-members.ensures)
    c.run_members.ensures.ids

pub returns-clause-ids : goal.returns-clause-ids
returns-clause-ids c =
    sequence_stay c.args.block.now c.as_mut_slice.result.now (whole_of c.args.self.now)
    (whole_of c.run_members.new.self) (c.as_mut_slice.ensures.value ∙ c.take_members-members.ensures)
    c.run_members.ensures.ids
