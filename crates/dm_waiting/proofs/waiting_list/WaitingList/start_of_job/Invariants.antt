use Rattle.std.proofs.Common.{◌≡◌, ◌≤◌, true, take, drop}
use Rattle.std.specs.List.{list_all}
use Rattle.dm_service.specs.Packages.{is_of_job}
use Rattle.dm_waiting.proofs.waiting_list.WaitingList.start_of_job.Given as goal

abbrev pub invariant-loop-start : goal.invariant-loop-start
invariant-loop-start l = record {
  within : l.start ≤ l.end;
  job : list_all is_of_job (drop l.start (take l.end l.self)) ≡ true;
}

abbrev pub decreases-loop-start : goal.decreases-loop-start
decreases-loop-start l = l.start
