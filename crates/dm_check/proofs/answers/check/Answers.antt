use Rattle.std.proofs.Common.{refl, ◌∙◌}
use Rattle.dm_check.specs.Answers.{check_text, message_exit}
use Rattle.dm_check.proofs.Answering.{all_checked, lacking, no_read, source_cause, answer_of_text}
use Rattle.dm_check.proofs.Answering.{answer_ended}
use Rattle.dm_check.proofs.answers.check.Goals as goal

pub returns-in-Ok-check_line-clause-output : goal.returns-in-Ok-check_line-clause-output
returns-in-Ok-check_line-clause-output g c =
    all_checked _ c.in-Ok.received c.as_slice.result.now _ _ _ c.put_answer.result c.in-Ok.ensures.received
    (c.as_slice.ensures ∙ c.in-Ok-check_line.ensures) refl
    c.put_answer.ensures.bytes

pub returns-in-Ok-check_line-clause-source : goal.returns-in-Ok-check_line-clause-source
returns-in-Ok-check_line-clause-source g c =
    source_cause c.in-Ok.received c.as_slice.result.now _ _ _ c.put_answer.result _ _ refl c.put_answer.ensures.bytes
    c.in-Ok.ensures.count

pub returns-in-Ok-clause-output : goal.returns-in-Ok-clause-output
returns-in-Ok-clause-output g c = lacking _ check_text message_exit _

pub returns-in-Ok-check_line-clause-asked : goal.returns-in-Ok-check_line-clause-asked
returns-in-Ok-check_line-clause-asked g c = λ is.
    absurd (no_read c.in-Ok.received c.as_slice.result.now _ _ _ c.put_answer.result refl c.put_answer.ensures.bytes is)

pub returns-in-Ok-check_line-clause-kind : goal.returns-in-Ok-check_line-clause-kind
returns-in-Ok-check_line-clause-kind g c =
    answer_of_text c.in-Ok.received c.as_slice.result.now _ _ _ c.put_answer.result refl c.put_answer.ensures.bytes

pub returns-in-Ok-check_line-clause-ended : goal.returns-in-Ok-check_line-clause-ended
returns-in-Ok-check_line-clause-ended g c =
    answer_ended _ _ c.in-Ok.received c.as_slice.result.now _ _ _ c.put_answer.result c.in-Ok.ensures.ended refl
    c.put_answer.ensures.bytes
