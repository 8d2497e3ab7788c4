use Rattle.std.proofs.Common.{◌≡◌, take}
use Rattle.dm_report.proofs.copies.copy_alerts.Given as goal

abbrev pub invariant-loop-alert : goal.invariant-loop-alert
invariant-loop-alert l = l.copied ≡ take l.alert-index l.alerts
