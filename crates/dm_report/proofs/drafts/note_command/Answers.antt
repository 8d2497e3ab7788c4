use Rattle.std.proofs.lemmas.Result.{on_ok_weaker}
use Rattle.dm_report.proofs.drafts.note_command.Goals as goal

pub returns-in-Status-clause-ok : goal.returns-in-Status-clause-ok
returns-in-Status-clause-ok c =
    rw c.in-Status.is (on_ok_weaker c.note_status.result (λ n. n c.args.inbox.now) c.note_status.ensures)

pub returns-in-Alert-clause-ok : goal.returns-in-Alert-clause-ok
returns-in-Alert-clause-ok c =
    rw c.in-Alert.is (on_ok_weaker c.note_alert.result (λ n. n c.args.inbox.now) c.note_alert.ensures)
