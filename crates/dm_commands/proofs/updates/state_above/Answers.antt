use Rattle.std.proofs.Common.{ap}
use Rattle.dm_tree.specs.Devices.{is_of_update}
use Rattle.dm_commands.proofs.Updating.{has_above, above_package}
use Rattle.dm_commands.proofs.updates.state_above.Goals as goal

pub returns-in_err-update : goal.returns-in_err-update
returns-in_err-update c =
    absurd (has_above c.args.tree.now.rows c.root.ensures.sound c.args.pkg_data c.requires.live
    (ap is_of_update c.requires.role)
    c.in_err-update.ensures.found)

pub state_beside-requires-clause-role : goal.state_beside-requires-clause-role
state_beside-requires-clause-role c =
    above_package c.args.tree.now.rows c.root.ensures.sound c.requires.update c.args.pkg_data c.in_ok-update.update
    c.requires.live c.requires.role
    c.in_ok-update.ensures.live.0 c.in_ok-update.ensures.live.1
