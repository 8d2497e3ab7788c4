use Rattle.std.proofs.Common.{◌≡◌, ◌++◌, drop}
use Rattle.std.specs.List.{flat_map}
use Rattle.dm_service.specs.Report.{alert_line}
use Rattle.dm_report.proofs.report.put_alerts.Given as goal

abbrev pub invariant-loop-alert : goal.invariant-loop-alert
invariant-loop-alert l =
    l.out ++ flat_map alert_line (drop l.alert-index l.alerts) ≡ l.fn.out ++ flat_map alert_line l.alerts
