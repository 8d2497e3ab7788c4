use Rattle.std.proofs.Common.{◌≡◌, ◌≤◌, length}
use Rattle.dm_waiting.proofs.WithoutJob.{left_at}
use Rattle.dm_waiting.proofs.waiting_list.WaitingList.without_job.Given as goal

abbrev pub invariant-loop-at : goal.invariant-loop-at
invariant-loop-at l = record {
  within : l.at ≤ length l.self;
  others : l.left ≡ left_at l.at l.self;
}

abbrev pub decreases-loop-at : goal.decreases-loop-at
decreases-loop-at l = l.at
