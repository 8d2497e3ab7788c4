use Rattle.dm_service.specs.Report.{alert_line}
use Rattle.dm_report.proofs.ReportLemmas.{lines-more}
use Rattle.dm_report.proofs.report.put_alerts.Goals as goal

pub loop-alert-preserved : goal.loop-alert-preserved
loop-alert-preserved c =
    lines-more alert_line c.args.alerts.now c.loop-alert.alert-index c.alert-item.result c.loop-alert.out _ _
    c.loop-alert-test.true c.alert-item.is c.in_ok-put_alert.ensures c.loop-alert.invariant
