use Rattle.std.proofs.Common.{arith}
use Rattle.dm_waiting.proofs.Beside.{long_of, loads_long, beside_out, list_out}
use Rattle.dm_waiting.proofs.waiting_list.WaitingList.take_out.Goals as goal

pub remove-requires : goal.remove-requires
remove-requires c =
    let long = long_of c.self.inside.queue c.self.inside.loads.items c.args.self.now c.self.invariant c.self.view_is in
    omega (arith, long, c.requires.there, c.requires.order)

pub drop_between-requires-clause-there : goal.drop_between-requires-clause-there
drop_between-requires-clause-there c =
    let long = loads_long c.self.inside.queue c.self.inside.loads.items c.args.self.now c.self.invariant
    c.self.view_is in
    omega (arith, long, c.requires.there)

pub invariant_of-self : goal.invariant_of-self
invariant_of-self c =
    beside_out c.args.start c.args.end c.self.inside.queue c.remove.new.self c.self.inside.loads.items
    c.drop_between.new.loads.items c.requires.order c.remove.ensures c.drop_between.ensures c.self.invariant

pub returns : goal.returns
returns c =
    list_out c.args.start c.args.end c.self.inside.queue c.remove.new.self c.self.inside.loads.items
    c.drop_between.new.loads.items c.args.self.now c.requires.order c.remove.ensures c.drop_between.ensures
    c.self.invariant c.self.view_is
