use Rattle.std.proofs.lemmas.Result.{on_ok_weaker}
use Rattle.dm_report.proofs.NoteLemmas.{notes-status}
use Rattle.dm_report.proofs.drafts.note_status.Goals as goal

pub returns-in-Some : goal.returns-in-Some
returns-in-Some c =
    on_ok_weaker c.push.result
    (notes-status c.args.sent.now c.args.status.now c.args.draft.now c.push.new.self c.in-Some.command
    c.in-Some.ensures.found c.if-command.true)
    c.push.ensures.ok
