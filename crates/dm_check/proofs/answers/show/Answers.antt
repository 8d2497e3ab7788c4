use Rattle.std.proofs.Common.{refl, ◌∙◌}
use Rattle.dm_check.specs.Answers.{show_text, message_exit}
use Rattle.dm_check.proofs.Answering.{all_shown, lacking, no_read, source_cause, answer_of_text}
use Rattle.dm_check.proofs.Answering.{answer_ended}
use Rattle.dm_check.proofs.answers.show.Goals as goal

pub returns-in-Ok-show_lines-clause-output : goal.returns-in-Ok-show_lines-clause-output
returns-in-Ok-show_lines-clause-output g c =
    all_shown _ c.in-Ok.received c.as_slice.result.now _ _ _ c.put_answer.result c.in-Ok.ensures.received
    (c.as_slice.ensures ∙ c.in-Ok-show_lines.ensures) refl
    c.put_answer.ensures.bytes

pub returns-in-Ok-show_lines-clause-source : goal.returns-in-Ok-show_lines-clause-source
returns-in-Ok-show_lines-clause-source g c =
    source_cause c.in-Ok.received c.as_slice.result.now _ _ _ c.put_answer.result _ _ refl c.put_answer.ensures.bytes
    c.in-Ok.ensures.count

pub returns-in-Ok-clause-output : goal.returns-in-Ok-clause-output
returns-in-Ok-clause-output g c = lacking _ show_text message_exit _

pub returns-in-Ok-show_lines-clause-asked : goal.returns-in-Ok-show_lines-clause-asked
returns-in-Ok-show_lines-clause-asked g c = λ is.
    absurd (no_read c.in-Ok.received c.as_slice.result.now _ _ _ c.put_answer.result refl c.put_answer.ensures.bytes is)

pub returns-in-Ok-show_lines-clause-kind : goal.returns-in-Ok-show_lines-clause-kind
returns-in-Ok-show_lines-clause-kind g c =
    answer_of_text c.in-Ok.received c.as_slice.result.now _ _ _ c.put_answer.result refl c.put_answer.ensures.bytes

pub returns-in-Ok-show_lines-clause-ended : goal.returns-in-Ok-show_lines-clause-ended
returns-in-Ok-show_lines-clause-ended g c =
    answer_ended _ _ c.in-Ok.received c.as_slice.result.now _ _ _ c.put_answer.result c.in-Ok.ensures.ended refl
    c.put_answer.ensures.bytes
