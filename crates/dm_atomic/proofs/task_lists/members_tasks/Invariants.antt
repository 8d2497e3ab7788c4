use Rattle.std.proofs.Common.{◌≡◌, ◌++◌, drop, length}
use Rattle.dm_atomic.specs.Tasks.{members_tasks}
use Rattle.dm_atomic.proofs.task_lists.members_tasks.Given as goal

abbrev pub invariant-loop-place : goal.invariant-loop-place
invariant-loop-place l =
    (l.tasks ++ members_tasks l.origin l.in_atomic (drop l.place l.members)
    ≡ members_tasks l.origin l.in_atomic l.fn.members)
    × (length l.members ≡ length l.fn.members)
