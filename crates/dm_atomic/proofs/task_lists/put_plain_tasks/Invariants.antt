use Rattle.std.proofs.Common.{◌≡◌, ◌++◌, drop, length}
use Rattle.dm_atomic.specs.Tasks.{item_tasks, plain_tasks}
use Rattle.dm_atomic.proofs.task_lists.put_plain_tasks.Given as goal

abbrev pub invariant-loop-place : goal.invariant-loop-place
invariant-loop-place l =
    (l.tasks ++ item_tasks l.origin l.in_atomic l.command l.place (drop l.place l.command.items)
    ≡ l.fn.tasks ++ plain_tasks l.origin l.in_atomic l.fn.command)
    × (length l.command.items ≡ length l.fn.command.items)
