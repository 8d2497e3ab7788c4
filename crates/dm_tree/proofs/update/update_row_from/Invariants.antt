use Rattle.dm_tree.specs.Devices.{HaveOtherRoles}
use Rattle.dm_tree.proofs.Common.{◌-◌, length}
use Rattle.dm_tree.proofs.update.update_row_from.Given as goal

abbrev pub invariant-loop-row : goal.invariant-loop-row
invariant-loop-row l = HaveOtherRoles l.rows l.from l.row

abbrev pub decreases-loop-row : goal.decreases-loop-row
decreases-loop-row l = length l.rows - l.row
