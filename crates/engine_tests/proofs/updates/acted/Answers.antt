use Rattle.std.proofs.Common.{sym, subst}
use Rattle.std.specs.Prelude.{codes}
use Rattle.dm_tree.specs.Rows.{nodes}
use Rattle.dm_tree.specs.Devices.{IsUpdateInOrder}
use Rattle.dm_commands.specs.Outcomes.{asked_by}
use Rattle.engine_tests.proofs.updates.acted.Goals as goal

pub returns-in-Ok : goal.returns-in-Ok
returns-in-Ok c =
    subst IsUpdateInOrder (sym c.in-Ok.ensures.done.tree)
    (c.steps_keep_the_device.ensures.update (asked_by (codes "s1") c.args.tree.now.clock) (nodes c.args.tree.now.rows)
    c.args.step.now c.root.ensures.well_formed c.requires.update)
