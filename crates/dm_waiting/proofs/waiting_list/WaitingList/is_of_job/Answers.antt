use Rattle.std.proofs.Common.{arith}
use Rattle.dm_waiting.proofs.Beside.{loads_long}
use Rattle.dm_waiting.proofs.Out.{told_at}
use Rattle.dm_waiting.proofs.waiting_list.WaitingList.is_of_job.Goals as goal

pub index-requires : goal.index-requires
index-requires c =
    let long = loads_long c.self.inside.queue c.self.inside.loads.items c.args.self.now c.self.invariant
    c.self.view_is in
    omega (arith, long, c.requires)

pub returns : goal.returns
returns c =
    told_at c.args.at c.self.inside.queue c.self.inside.loads.items c.args.self.now c.index.result.now c.is_some.result
    c.self.invariant c.self.view_is c.requires c.index.ensures c.is_some.ensures
