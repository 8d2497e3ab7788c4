use Rattle.std.proofs.Common.{◌+◌, ◌∙◌, ap, sym, refl, arith}
use Rattle.dm_job.specs.Texts.{segments}
use Rattle.dm_ddf.specs.declared.reader.DdfProgress.{DdfProgress}
use Rattle.dm_ddf.specs.Texts.{ddf_from}
use Rattle.dm_ddf.specs.Reading.{progress_after, described}
use Rattle.dm_ddf.proofs.Turns.{shorter, reads_on, reads_last, stops_at, stops_before, stops_same}
use Rattle.dm_ddf.proofs.lines.read_ddf.Goals as goal

pub returns-in-Err-clause-err : goal.returns-in-Err-clause-err
returns-in-Err-clause-err c =
    stops_same _ _ c.in-Err.error c.lines.invariant.rest
    (stops_before progress_after described c.lines.number c.lines.progress _ c.in-Err.error c.in-Err.ensures)

pub returns-in-Err-line_after-clause-err : goal.returns-in-Err-line_after-clause-err
returns-in-Err-line_after-clause-err c =
    rw c.error_at.ensures (stops_same _ _ _ c.lines.invariant.rest
    (stops_at progress_after described c.lines.number c.lines.progress c.in-Err-line_after.error c.lines.rest.now
    c.in-Ok.cut.0.now c.in-Ok.cut.1.now c.in-Ok.ensures.0 c.in-Ok.ensures.1 c.in-Err-line_after.ensures))

pub returns-in-Ok-ended_or_going-clause-ddf : goal.returns-in-Ok-ended_or_going-clause-ddf
returns-in-Ok-ended_or_going-clause-ddf c =
    c.lines.invariant.rest
    ∙ reads_last progress_after described c.lines.number c.lines.progress c.in-Ok-line_after.next
    c.in-Ok-ended_or_going.ddf c.lines.rest.now c.in-Ok.cut.0.now c.in-Ok.cut.1.now c.in-Ok.ensures.0
    c.in-Ok.ensures.1 c.in-Ok-line_after.ensures c.in-Ok-ended_or_going.ensures

pub lines-preserved : goal.lines-preserved
lines-preserved c =
    let few = c.lines.invariant.few in
    let less = shorter c.lines.rest.now c.in-Ok.cut.0.now c.in-Ok.cut.1.now c.in-Ok.ensures.2 in
    record {
      few = omega (arith, few, less);
      rest = c.lines.invariant.rest
          ∙ reads_on progress_after described c.lines.number c.lines.progress c.in-Ok-line_after.next c.lines.rest.now
          c.in-Ok.cut.0.now c.in-Ok.cut.1.now c.in-Ok.ensures.0 c.in-Ok.ensures.1 c.in-Ok-line_after.ensures
          c.in-Err-ended_or_going.ensures.1
          ∙ ap (λ (p : DdfProgress). ddf_from (c.lines.number + 1) p (segments c.in-Ok.cut.1.now))
          (sym c.in-Err-ended_or_going.ensures.0);
    }
