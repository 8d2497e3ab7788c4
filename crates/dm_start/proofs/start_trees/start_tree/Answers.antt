use Rattle.std.proofs.Common.{refl}
use Rattle.dm_start.specs.Growing.{bare_tree, device_part}
use Rattle.dm_start.proofs.Laid.{begins_at, goes_on}
use Rattle.dm_start.proofs.start_trees.start_tree.Goals as goal

pub returns-clause-nodes : goal.returns-clause-nodes
returns-clause-nodes c =
    let clock = c.args.clock in
    let on0 =
    begins_at clock (bare_tree clock)
    (device_part c.args.device.now) c.in_ok-tree.tree c.in_ok-tree.ensures.nodes c.in_ok-tree.ensures.clock in
    let on1 = goes_on on0 c.add_device_node.new.tree _ refl c.in_ok-add_device_node.ensures in
    let on2 = goes_on on1 c.add_device_leaf.new.tree _ refl c.in_ok-add_device_leaf.ensures in
    let on3 = goes_on on2 c.add_device_leaf-2.new.tree _ refl c.in_ok-add_device_leaf-2.ensures in
    let on4 = goes_on on3 c.add_device_leaf-3.new.tree _ refl c.in_ok-add_device_leaf-3.ensures in
    let on5 = goes_on on4 c.add_device_leaf-4.new.tree _ refl c.in_ok-add_device_leaf-4.ensures in
    let on6 = goes_on on5 c.add_device_leaf-5.new.tree _ refl c.in_ok-add_device_leaf-5.ensures in
    on6.rest_is

pub returns-clause-parked : goal.returns-clause-parked
returns-clause-parked c =
    c.in_ok-add_device_leaf-5.ensures.1.1
    (c.in_ok-add_device_leaf-4.ensures.1.1
    (c.in_ok-add_device_leaf-3.ensures.1.1
    (c.in_ok-add_device_leaf-2.ensures.1.1
    (c.in_ok-add_device_leaf.ensures.1.1 (c.in_ok-add_device_node.ensures.1.1 c.in_ok-tree.ensures.parked)))))
