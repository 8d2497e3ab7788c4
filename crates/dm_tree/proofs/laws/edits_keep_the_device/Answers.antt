use Rattle.dm_tree.proofs.DeviceTrees.{changed_keeps_device, added_keeps_device, pruned_keeps_device}
use Rattle.dm_tree.proofs.DeviceTrees.{renamed_keeps_device}
use Rattle.dm_tree.proofs.laws.edits_keep_the_device.Goals as goal

pub returns : goal.returns
returns c = record {
  changed = changed_keeps_device;
  added = added_keeps_device;
  pruned = pruned_keeps_device;
  renamed = renamed_keeps_device;
}
