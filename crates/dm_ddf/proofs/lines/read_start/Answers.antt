use Rattle.std.proofs.Common.{◌∙◌, ap, sym, refl, arith}
use Rattle.dm_start.specs.Start.{section_at, told_of, after_line}
use Rattle.dm_ddf.specs.Texts.{setup_in}
use Rattle.dm_ddf.proofs.Turns.{shorter, not_begun, reads_on, reads_last, stops_at, stops_before, stops_same}
use Rattle.dm_ddf.proofs.lines.read_start.Goals as goal

pub returns-in-Err-clause-err : goal.returns-in-Err-clause-err
returns-in-Err-clause-err c =
    stops_same _ _ c.in-Err.error c.lines.invariant.rest
    (stops_before after_line setup_in c.lines.number (section_at c.lines.reader) _ c.in-Err.error c.in-Err.ensures)

pub lines-preserved : goal.lines-preserved
lines-preserved c =
    let few = c.lines.invariant.few in
    let less = shorter c.lines.rest.now c.in-Ok.cut.0.now c.in-Ok.cut.1.now c.in-Ok.ensures.2 in
    let more = sym c.in-Ok-false.ensures.last ∙ c.in-Ok-false.field-0-test in
    record {
      few = omega (arith, few, less);
      open_ = more;
      rest = c.lines.invariant.rest
          ∙ reads_on after_line setup_in c.lines.number (section_at c.lines.reader) (section_at c.line.new.self)
          c.lines.rest.now c.in-Ok.cut.0.now c.in-Ok.cut.1.now c.in-Ok.ensures.0 c.in-Ok.ensures.1
          c.in-Ok-false.ensures.read (not_begun (section_at c.line.new.self) more);
    }

pub returns-in-Ok-true-clause-start : goal.returns-in-Ok-true-clause-start
returns-in-Ok-true-clause-start c =
    c.lines.invariant.rest
    ∙ reads_last after_line setup_in c.lines.number (section_at c.lines.reader) (section_at c.line.new.self)
    (told_of c.finish.result) c.lines.rest.now c.in-Ok.cut.0.now c.in-Ok.cut.1.now c.in-Ok.ensures.0 c.in-Ok.ensures.1
    c.in-Ok-true.ensures.read (ap setup_in c.finish.ensures.told)

pub returns-in-Err-line-clause-err : goal.returns-in-Err-line-clause-err
returns-in-Err-line-clause-err c =
    rw c.error_at.ensures (stops_same _ _ _ c.lines.invariant.rest
    (stops_at after_line setup_in c.lines.number (section_at c.lines.reader) c.in-Err-line.error c.lines.rest.now
    c.in-Ok.cut.0.now c.in-Ok.cut.1.now c.in-Ok.ensures.0 c.in-Ok.ensures.1 c.in-Err-line.ensures.bad))
