use Rattle.std.proofs.lemmas.Result.{on_ok_weaker}
use Rattle.dm_report.proofs.NoteLemmas.{notes-value}
use Rattle.dm_report.proofs.drafts.note_value.Goals as goal

pub returns-in-Whole : goal.returns-in-Whole
returns-in-Whole c =
    on_ok_weaker c.push.result
    (notes-value c.args.draft.now c.push.new.self c.args.number c.in-Whole.value c.args.what c.in-Whole.is)
    c.push.ensures.ok
