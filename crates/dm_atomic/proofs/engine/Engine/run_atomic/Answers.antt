use Rattle.std.proofs.Common.{◌∙◌, ap, true}
use Rattle.dm_atomic.specs.Tasks.{members_tasks}
use Rattle.dm_atomic.specs.Marks.{whole_of}
use Rattle.dm_atomic.proofs.Covering.{atomic_stay}
use Rattle.dm_atomic.proofs.engine.Engine.run_atomic.Goals as goal

pub returns-in_err-atomic-clause-ids : goal.returns-in_err-atomic-clause-ids
returns-in_err-atomic-clause-ids c =
    atomic_stay c.args.origin true c.args.block.now c.as_mut_slice-2.result.now (whole_of c.args.self.now)
    (whole_of c.atomic.new.self)
    (c.as_mut_slice-2.ensures.value ∙ c.into_vec-tasks.ensures ∙ c.in_ok-members_tasks.ensures
    ∙ ap (members_tasks c.args.origin true) (c.as_mut_slice.ensures.value ∙ c.take_members-members.ensures))
    c.atomic.ensures.ids

pub returns-clause-ids : goal.returns-clause-ids
returns-clause-ids c =
    atomic_stay c.args.origin true c.args.block.now c.as_mut_slice-2.result.now (whole_of c.args.self.now)
    (whole_of c.atomic.new.self)
    (c.as_mut_slice-2.ensures.value ∙ c.into_vec-tasks.ensures ∙ c.in_ok-members_tasks.ensures
    ∙ ap (members_tasks c.args.origin true) (c.as_mut_slice.ensures.value ∙ c.take_members-members.ensures))
    c.atomic.ensures.ids
