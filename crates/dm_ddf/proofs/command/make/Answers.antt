use Rattle.std.proofs.Common.{subst}
use Rattle.dm_ddf.specs.Texts.{make_of}
use Rattle.dm_ddf.specs.Answered.{TellsText}
use Rattle.dm_ddf.proofs.Telling.{all_ends, too_long, answer_ends}
use Rattle.dm_ddf.proofs.command.make.Goals as goal

pub returns-in-Err-TooLong-clause-output : goal.returns-in-Err-TooLong-clause-output
returns-in-Err-TooLong-clause-output g c =
    too_long make_of (g.S.Source.left c.args.src.now) (g.S.Source.left c.take_all.new.src) (g.K.Sink.got
    c.args.out.now)
    (rw c.in-Err-TooLong.field-0-is at c.in-Err-TooLong.ensures.bytes)

pub returns-clause-output : goal.returns-clause-output
returns-clause-output g c =
    all_ends make_of (g.S.Source.left c.args.src.now) (g.S.Source.left c.take_all.new.src) c.in-Ok.input _ _
    c.put_answer.result c.in-Ok.ensures.bytes
    (answer_ends (make_of c.in-Ok.input) c.make_text.result _ _ c.put_answer.result
    (subst (λ t. TellsText (make_of t) c.make_text.result) c.as_slice.ensures c.make_text.ensures)
    c.put_answer.ensures.bytes)
