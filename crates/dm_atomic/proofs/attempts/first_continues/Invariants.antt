use Rattle.std.proofs.Common.{◌≡◌, drop}
use Rattle.dm_objects.specs.Seen.{present}
use Rattle.dm_atomic.specs.Run.{first_continues}
use Rattle.dm_atomic.proofs.attempts.first_continues.Given as goal

abbrev pub invariant-loop-task : goal.invariant-loop-task
invariant-loop-task l =
    first_continues (present l.inbox.objects) (drop l.task-index l.tasks)
    ≡ first_continues (present l.inbox.objects) l.tasks
