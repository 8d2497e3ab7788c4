use Rattle.std.proofs.Common.{◌≤◌, length}
use Rattle.dm_report.specs.Chains.{IsChained}
use Rattle.dm_report.proofs.chains.chain_all.Given as goal

abbrev pub invariant-loop-at : goal.invariant-loop-at
invariant-loop-at l = record { within : l.at ≤ length l.found; chained : IsChained l.found l.at l.first l.next }

abbrev pub decreases-loop-at : goal.decreases-loop-at
decreases-loop-at l = l.at
