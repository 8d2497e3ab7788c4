use Rattle.std.proofs.Common.{◌∙◌}
use Rattle.dm_waiting.proofs.Beside.{long_of}
use Rattle.dm_waiting.proofs.waiting_list.WaitingList.len.Goals as goal

pub returns : goal.returns
returns c =
    c.len.ensures ∙ long_of c.self.inside.queue c.self.inside.loads.items c.args.self.now c.self.invariant
    c.self.view_is
