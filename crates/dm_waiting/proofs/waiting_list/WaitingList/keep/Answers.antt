use Rattle.std.proofs.Common.{arith}
use Rattle.dm_waiting.proofs.Beside.{long_of, loads_long, beside_kept, list_kept}
use Rattle.dm_waiting.proofs.waiting_list.WaitingList.keep.Goals as goal

pub remove-requires : goal.remove-requires
remove-requires c =
    let long = long_of c.self.inside.queue c.self.inside.loads.items c.args.self.now c.self.invariant c.self.view_is in
    omega (arith, long, c.requires)

pub drop_front-requires : goal.drop_front-requires
drop_front-requires c =
    let long = loads_long c.self.inside.queue c.self.inside.loads.items c.args.self.now c.self.invariant
    c.self.view_is in
    omega (arith, long, c.requires)

pub invariant_of-self : goal.invariant_of-self
invariant_of-self c =
    beside_kept c.args.front c.args.count c.self.inside.queue c.remove.new.self c.cut_to.new.self
    c.self.inside.loads.items c.drop_front.new.loads.items c.truncate.new.self.items c.remove.ensures c.cut_to.ensures
    c.drop_front.ensures c.truncate.ensures.items c.self.invariant

pub returns : goal.returns
returns c =
    list_kept c.args.front c.args.count c.self.inside.queue c.remove.new.self c.cut_to.new.self
    c.self.inside.loads.items c.drop_front.new.loads.items c.truncate.new.self.items c.args.self.now c.remove.ensures
    c.cut_to.ensures c.drop_front.ensures c.truncate.ensures.items c.self.invariant c.self.view_is
