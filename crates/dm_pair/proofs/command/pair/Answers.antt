use Rattle.std.proofs.Common.{◌∙◌, ap}
use Rattle.dm_exit.proofs.Parts.{at_end_done}
use Rattle.dm_pair.specs.Texts.{written}
use Rattle.dm_pair.specs.Seen.{all_written}
use Rattle.dm_pair.proofs.Putting.{all_put, too_long, put_of_text}
use Rattle.dm_pair.proofs.command.pair.Goals as goal

pub returns-in-Err-TooLong-clause-output : goal.returns-in-Err-TooLong-clause-output
returns-in-Err-TooLong-clause-output g c =
    too_long (g.S.Source.left c.args.src.now) (g.S.Source.left c.take_all.new.src) (g.K.Sink.got c.args.out.now)
    (rw c.in-Err-TooLong.field-0-is at c.in-Err-TooLong.ensures.bytes)

pub returns-in-Ok-run_pair-clause-output : goal.returns-in-Ok-run_pair-clause-output
returns-in-Ok-run_pair-clause-output g c =
    all_put (g.S.Source.left c.args.src.now) (g.S.Source.left c.take_all.new.src) c.in-Ok.input
    (all_written c.in-Ok-run_pair.written) c.in-Ok-run_pair.written.bad _ _ c.put_out.result c.in-Ok.ensures.bytes
    (c.in-Ok-run_pair.ensures.text ∙ ap (λ b. (written b).text) c.as_slice.ensures)
    (c.in-Ok-run_pair.ensures.bad ∙ ap (λ b. (written b).bad) c.as_slice.ensures) c.put_out.ensures.bytes

pub returns-in-Ok-run_pair-clause-kind : goal.returns-in-Ok-run_pair-clause-kind
returns-in-Ok-run_pair-clause-kind g c =
    put_of_text (all_written c.in-Ok-run_pair.written) c.in-Ok-run_pair.written.bad _ _ c.put_out.result
    c.put_out.ensures.bytes

pub returns-in-Ok-run_pair-clause-ended : goal.returns-in-Ok-run_pair-clause-ended
returns-in-Ok-run_pair-clause-ended g c = at_end_done _ _ c.put_out.result c.in-Ok.ensures.bytes.2
