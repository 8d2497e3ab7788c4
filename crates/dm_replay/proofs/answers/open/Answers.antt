use Rattle.std.proofs.Common.{sym, ap, ◌∙◌}
use Rattle.dm_replay.proofs.Answering.{exhausted_keeps, on_ok}
use Rattle.dm_replay.proofs.answers.open.Goals as goal

pub returns-in-Err-Exhausted-clause-state : goal.returns-in-Err-Exhausted-clause-state
returns-in-Err-Exhausted-clause-state c =
    let refused = rw c.in-Err-Exhausted.field-0-is at c.in-Err-Exhausted.ensures.answer in
    on_ok c.number_line.result _ (ap (λ w. w.machine) c.in-Err-Exhausted.ensures.err
    ∙ sym (exhausted_keeps _ _ _ _ _ refused))
