use Rattle.std.proofs.Common.{subst}
use Rattle.dm_tree.specs.Nodes.{IsStamp}
use Rattle.dm_tree.specs.Rows.{nodes}
use Rattle.dm_session.proofs.NewClients.{new_machine_is, new_base, new_sound}
use Rattle.dm_session.proofs.client.Client.new.Goals as goal

pub invariant_of-result : goal.invariant_of-result
invariant_of-result c =
    new_sound c.in_ok-engine.engine c.new-3.result c.args.alloc c.args.limits c.in_ok-place.place c.args.accounts
    c.new-4.result
    c.args.tree.clock (nodes c.args.tree.rows) c.in_ok-engine.ensures.state c.new-3.ensures c.new-4.ensures
    c.in_ok-engine.ensures.running c.in_ok-engine.ensures.sound c.in_ok-engine.ensures.past
    (c.in_ok-engine.ensures.parked c.requires.parked) c.requires.limits
    (subst IsStamp c.clock.ensures.value c.clock.ensures.kept)
    (record { formed = c.root.ensures.well_formed; device = c.requires.device }) c.requires.accounts

pub returns-clause-machine : goal.returns-clause-machine
returns-clause-machine c =
    new_machine_is c.in_ok-engine.engine c.new-3.result c.args.alloc c.args.limits c.in_ok-place.place c.args.accounts
    c.new-4.result
    c.args.tree.clock (nodes c.args.tree.rows) c.in_ok-engine.ensures.state c.new-3.ensures c.new-4.ensures
    c.in_ok-engine.ensures.running

pub returns-clause-base : goal.returns-clause-base
returns-clause-base c =
    new_base c.in_ok-engine.engine c.new-3.result c.args.alloc c.args.limits c.in_ok-place.place c.args.accounts
    c.new-4.result
    c.args.tree.clock (nodes c.args.tree.rows) c.in_ok-engine.ensures.state c.new-3.ensures c.new-4.ensures
    c.in_ok-engine.ensures.running
