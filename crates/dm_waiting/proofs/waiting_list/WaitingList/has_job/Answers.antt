use Rattle.std.proofs.Common.{◌∙◌}
use Rattle.dm_waiting.proofs.Beside.{jobs_any}
use Rattle.dm_waiting.proofs.waiting_list.WaitingList.has_job.Goals as goal

pub returns : goal.returns
returns c =
    c.any_carries.ensures
    ∙ jobs_any c.self.inside.queue c.self.inside.loads.items c.args.self.now c.self.invariant c.self.view_is
