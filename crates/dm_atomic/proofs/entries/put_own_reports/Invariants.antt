use Rattle.std.proofs.Common.{◌≡◌, ◌++◌}
use Rattle.dm_atomic.specs.Made.{all_reported, told}
use Rattle.dm_atomic.proofs.entries.put_own_reports.Given as goal

abbrev pub invariant-loop-report : goal.invariant-loop-report
invariant-loop-report l = l.out ≡ l.fn.out ++ told (all_reported l.yielded)
