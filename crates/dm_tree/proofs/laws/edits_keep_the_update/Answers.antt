use Rattle.dm_tree.proofs.UpdateParts.{changed_keeps_update, added_keeps_update, pruned_keeps_update}
use Rattle.dm_tree.proofs.UpdateParts.{renamed_keeps_update}
use Rattle.dm_tree.proofs.laws.edits_keep_the_update.Goals as goal

pub returns : goal.returns
returns c = record {
  changed = changed_keeps_update;
  added = added_keeps_update;
  pruned = pruned_keeps_update;
  renamed = renamed_keeps_update;
}
