use Rattle.std.proofs.lemmas.Result.{on_ok_weaker}
use Rattle.dm_report.proofs.NoteLemmas.{notes-item}
use Rattle.dm_report.proofs.drafts.note_item.Goals as goal

pub returns-clause-ok : goal.returns-clause-ok
returns-clause-ok c =
    on_ok_weaker c.note_value.result
    (λ n. notes-item c.args.number c.args.results.now c.args.item.now _ _ c.args.inbox.now _ c.in_ok-what.what (n _)
    (rw c.in_ok-piece.ensures at c.in_ok-what.ensures.ok))
    c.note_value.ensures
