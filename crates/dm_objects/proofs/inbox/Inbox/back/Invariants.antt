use Rattle.std.proofs.Common.{◌≡◌, ◌<◌, ◌≤◌, true, length}
use Rattle.std.specs.Vec.{vec_len, vec_capacity}
use Rattle.dm_objects.specs.Seen.{seen_of, is_unfinished}
use Rattle.dm_objects.proofs.SeenObjects.{Begins}
use Rattle.dm_objects.proofs.inbox.Inbox.back.Given as goal

abbrev pub invariant-loop-mark : goal.invariant-loop-mark
invariant-loop-mark l = record {
  seen : Begins (seen_of l.self-inside.past.items l.self-inside.object)
      (seen_of l.initial.self-inside.past.items l.initial.self-inside.object);
  low : l.mark-inside.at ≤ length l.self-inside.past.items;
  most : l.self-inside.max_obj ≡ l.initial.self-inside.max_obj;
  room : is_unfinished l.self-inside.object ≡ true → vec_len l.self-inside.past < vec_capacity l.self-inside.past;
}

abbrev pub decreases-loop-mark : goal.decreases-loop-mark
decreases-loop-mark l = length l.self-inside.past.items
