use Rattle.std.proofs.Common.{◌∙◌, ap, sym}
use Rattle.dm_replay.proofs.Answering.{exhausted_keeps}
use Rattle.dm_pair.proofs.Wording.{sent_words, exhausted_words}
use Rattle.dm_pair.proofs.ends.open.Goals as goal

pub returns-in_ok-note-in-Ok-clause-words : goal.returns-in_ok-note-in-Ok-clause-words
returns-in_ok-note-in-Ok-clause-words c = sent_words _ _ c.in-Ok.ensures.answer

pub returns-in-Err-Exhausted-clause-words : goal.returns-in-Err-Exhausted-clause-words
returns-in-Err-Exhausted-clause-words c =
    exhausted_words _ _ (rw c.in-Err-Exhausted.field-0-is at c.in-Err-Exhausted.ensures.answer)

pub returns-in-Err-Exhausted-clause-client : goal.returns-in-Err-Exhausted-clause-client
returns-in-Err-Exhausted-clause-client c =
    let refused = rw c.in-Err-Exhausted.field-0-is at c.in-Err-Exhausted.ensures.answer in
    ap (λ w. w.machine) c.in-Err-Exhausted.ensures.err ∙ sym (exhausted_keeps _ _ _ _ _ refused)
