use Rattle.std.proofs.Common.{◌∙◌, sym, refl, arith}
use Rattle.dm_pair.specs.Texts.{jobbing}
use Rattle.dm_pair.proofs.Turns.{shorter, no_job, job_goes_on, job_ends, job_halts, halts_before}
use Rattle.dm_pair.proofs.reading.read_job.Goals as goal

pub returns-in-Err-clause-halt : goal.returns-in-Err-clause-halt
returns-in-Err-clause-halt c told =
    halts_before _ _ c.in-Err.halt c.in-Err.halt (c.lines.invariant.rest told) refl
    (c.in-Err.ensures (jobbing told c.lines.reader))

pub lines-preserved : goal.lines-preserved
lines-preserved c =
    let few = c.lines.invariant.few in
    let less = shorter c.lines.rest.now c.in-Ok.cut.0.now c.in-Ok.cut.1.now c.in-Ok.ensures.2 in
    let more = sym c.in-Ok-false.ensures.last ∙ c.in-Ok-false.field-0-test in
    record {
      few = omega (arith, few, less);
      open_ = more;
      rest = λ told. c.lines.invariant.rest told
          ∙ job_goes_on c.lines.number told c.lines.reader c.line.new.self c.lines.rest.now c.in-Ok.cut.0.now
          c.in-Ok.cut.1.now c.in-Ok.ensures.0 c.in-Ok.ensures.1 c.in-Ok-false.ensures.read
          (no_job c.line.new.self more);
    }

pub returns-in-Ok-true-clause-job : goal.returns-in-Ok-true-clause-job
returns-in-Ok-true-clause-job c told =
    c.lines.invariant.rest told
    ∙ job_ends c.lines.number told c.lines.reader c.line.new.self c.finish.result c.lines.rest.now c.in-Ok.cut.0.now
    c.in-Ok.cut.1.now c.in-Ok.ensures.0 c.in-Ok.ensures.1 c.in-Ok-true.ensures.read c.finish.ensures.job

pub returns-in-Err-line-clause-halt : goal.returns-in-Err-line-clause-halt
returns-in-Err-line-clause-halt c told =
    halts_before _ _ _ c.halt_at.result (c.lines.invariant.rest told) c.halt_at.ensures
    (job_halts c.lines.number told c.lines.reader c.lines.rest.now c.in-Ok.cut.0.now c.in-Ok.cut.1.now
    c.in-Err-line.error c.in-Ok.ensures.0 c.in-Ok.ensures.1 c.in-Err-line.ensures.bad)
