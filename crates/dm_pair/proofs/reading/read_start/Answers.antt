use Rattle.std.proofs.Common.{◌∙◌, ap, sym, refl, arith}
use Rattle.dm_start.specs.Start.{section_at, told_of}
use Rattle.dm_replay.specs.Trace.{told_in}
use Rattle.dm_replay.proofs.Beginning.{can_begin}
use Rattle.dm_pair.specs.Texts.{starting}
use Rattle.dm_pair.proofs.Turns.{shorter, not_told, start_goes_on, start_ends, start_halts, halts_before}
use Rattle.dm_pair.proofs.reading.read_start.Goals as goal

pub returns-in-Err-clause-halt : goal.returns-in-Err-clause-halt
returns-in-Err-clause-halt c =
    halts_before _ _ c.in-Err.halt c.in-Err.halt c.lines.invariant.rest refl
    (c.in-Err.ensures (starting (section_at c.lines.reader)))

pub lines-preserved : goal.lines-preserved
lines-preserved c =
    let few = c.lines.invariant.few in
    let less = shorter c.lines.rest.now c.in-Ok.cut.0.now c.in-Ok.cut.1.now c.in-Ok.ensures.2 in
    let more = sym c.in-Ok-false.ensures.last ∙ c.in-Ok-false.field-0-test in
    record {
      few = omega (arith, few, less);
      open_ = more;
      rest = c.lines.invariant.rest
          ∙ start_goes_on c.lines.number (section_at c.lines.reader) (section_at c.line.new.self) c.lines.rest.now
          c.in-Ok.cut.0.now c.in-Ok.cut.1.now c.in-Ok.ensures.0 c.in-Ok.ensures.1 c.in-Ok-false.ensures.read
          (not_told (section_at c.line.new.self) more);
    }

pub returns-in-Ok-true-clause-start : goal.returns-in-Ok-true-clause-start
returns-in-Ok-true-clause-start c =
    c.lines.invariant.rest
    ∙ start_ends c.lines.number (section_at c.lines.reader) (section_at c.line.new.self) (told_of c.finish.result)
    c.lines.rest.now c.in-Ok.cut.0.now c.in-Ok.cut.1.now c.in-Ok.ensures.0 c.in-Ok.ensures.1 c.in-Ok-true.ensures.read
    (ap told_in c.finish.ensures.told)

pub returns-in-Ok-true-clause-client : goal.returns-in-Ok-true-clause-client
returns-in-Ok-true-clause-client c = can_begin c.finish.result c.finish.ensures.sound c.finish.ensures.parked

pub returns-in-Err-line-clause-halt : goal.returns-in-Err-line-clause-halt
returns-in-Err-line-clause-halt c =
    halts_before _ _ _ c.halt_at.result c.lines.invariant.rest c.halt_at.ensures
    (start_halts c.lines.number (section_at c.lines.reader) c.lines.rest.now c.in-Ok.cut.0.now c.in-Ok.cut.1.now
    c.in-Err-line.error c.in-Ok.ensures.0 c.in-Ok.ensures.1 c.in-Err-line.ensures.bad)
