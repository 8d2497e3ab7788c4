use Rattle.std.proofs.Common.{None, ◌≡◌, ◌≤◌, ◌-◌, length, replicate}
use Rattle.dm_report.proofs.findings.no_codes.Given as goal

abbrev pub invariant-loop-codes : goal.invariant-loop-codes
invariant-loop-codes l = record {
  within : length l.codes ≤ l.commands;
  none : l.codes ≡ replicate (length l.codes) None;
}

abbrev pub decreases-loop-codes : goal.decreases-loop-codes
decreases-loop-codes l = l.commands - length l.codes
