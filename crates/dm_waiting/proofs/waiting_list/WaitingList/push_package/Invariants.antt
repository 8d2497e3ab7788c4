use Rattle.std.proofs.Common.{◌≡◌, ◌++◌, map, take}
use Rattle.dm_service.specs.Packages.{job_waiting}
use Rattle.dm_waiting.proofs.waiting_list.WaitingList.push_package.Given as goal

abbrev pub invariant-loop-entry : goal.invariant-loop-entry
invariant-loop-entry l = l.self ≡ l.fn.self ++ map job_waiting (take l.entry-index l.entries)
