use Rattle.std.proofs.Common.{◌≡◌, drop}
use Rattle.dm_objects.specs.Inside.{stays}
use Rattle.dm_objects.specs.Seen.{present}
use Rattle.dm_atomic.specs.Run.{left_object}
use Rattle.dm_atomic.specs.Engine.{FitsObject}
use Rattle.dm_atomic.specs.Marks.{ObjectsGo}
use Rattle.dm_atomic.proofs.attempts.skip_left.Given as goal

abbrev pub invariant-loop-task : goal.invariant-loop-task
invariant-loop-task l = record {
  object : left_object (present l.inbox.objects) (drop l.task-index l.unrun)
      ≡ left_object (stays (present l.fn.inbox.objects)) l.unrun;
  fits : FitsObject l.fn.inbox.max_obj (present l.fn.inbox.objects)
      → FitsObject l.inbox.max_obj (present l.inbox.objects);
  max_obj : l.inbox.max_obj ≡ l.fn.inbox.max_obj;
  seen : ObjectsGo l.fn.inbox l.inbox;
}
