use Rattle.std.proofs.Common.{List, arith, subst}
use Rattle.dm_pack.specs.Entries.{Entry}
use Rattle.dm_pack.specs.Filling.{CanBeTaken}
use Rattle.dm_waiting.proofs.Beside.{loads_long, entries_are, beside_taken, list_taken}
use Rattle.dm_waiting.proofs.Out.{whole_low}
use Rattle.dm_waiting.proofs.waiting_list.WaitingList.commit.Goals as goal

pub commit-requires : goal.commit-requires
commit-requires c =
    subst (λ (es : List Entry). CanBeTaken es c.args.filled.now.whole c.args.filled.now.cut)
    (entries_are c.self.inside.queue c.self.inside.loads.items c.args.self.now c.self.invariant c.self.view_is)
    c.requires

pub drop_front-requires : goal.drop_front-requires
drop_front-requires c =
    let long = loads_long c.self.inside.queue c.self.inside.loads.items c.args.self.now c.self.invariant
    c.self.view_is in
    let low = whole_low c.args.self.now c.args.filled.now.whole c.args.filled.now.cut c.requires in
    omega (arith, long, low)

pub invariant_of-self : goal.invariant_of-self
invariant_of-self c =
    beside_taken c.args.filled.now.whole c.args.filled.now.cut c.self.inside.queue c.commit.new.self
    c.self.inside.loads.items c.drop_front.new.loads.items c.begin.new.loads.items c.commit.ensures
    c.drop_front.ensures c.begin.ensures c.self.invariant

pub returns : goal.returns
returns c =
    list_taken c.args.filled.now.whole c.args.filled.now.cut c.self.inside.queue c.commit.new.self
    c.self.inside.loads.items c.drop_front.new.loads.items c.begin.new.loads.items c.args.self.now c.commit.ensures
    c.drop_front.ensures c.begin.ensures c.self.invariant c.self.view_is
