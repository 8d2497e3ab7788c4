use Rattle.std.proofs.Common.{◌∙◌, ap, sym, refl, arith, false, true}
use Rattle.dm_ddf.specs.Texts.{end_after, when_ended}
use Rattle.dm_ddf.proofs.Turns.{reads_last, refused_line, stops_before}
use Rattle.dm_ddf.proofs.lines.read_end.Goals as goal

pub returns-in-Err-clause-err : goal.returns-in-Err-clause-err
returns-in-Err-clause-err c = stops_before end_after when_ended c.args.line false _ c.in-Err.error c.in-Err.ensures

pub returns-in-Ok-is_end-clause-rest : goal.returns-in-Ok-is_end-clause-rest
returns-in-Ok-is_end-clause-rest c =
    reads_last end_after when_ended c.args.line false true true c.args.text.now c.in-Ok.cut.0.now c.in-Ok.cut.1.now
    c.in-Ok.ensures.0 c.in-Ok.ensures.1 c.in-Ok-is_end.ensures refl

pub returns-in-Err-is_end-clause-err : goal.returns-in-Err-is_end-clause-err
returns-in-Err-is_end-clause-err c =
    refused_line end_after when_ended c.args.line false c.in-Err-is_end.reason c.args.text.now c.in-Ok.cut.0.now
    c.in-Ok.cut.1.now c.in-Ok.ensures.0 c.in-Ok.ensures.1 c.in-Err-is_end.ensures
