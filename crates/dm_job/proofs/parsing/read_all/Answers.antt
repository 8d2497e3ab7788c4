use Rattle.std.proofs.Common.{◌+◌, ◌∷◌, length, length-append, sym, ap, subst, ◌∙◌, arith}
use Rattle.dm_fields.specs.Refusing.{Refuses}
use Rattle.dm_job.specs.Reading.{reading_after}
use Rattle.dm_job.specs.Texts.{segments, job_in, job_from, job_of}
use Rattle.dm_job.proofs.Turns.{goes_on, read_line, refused_line, last_line, has_job, ends_all, bad_all}
use Rattle.dm_job.proofs.parsing.read_all.Goals as goal

pub lines-init : goal.lines-init
unfolding job_of
lines-init c =
    record {
      few = omega arith;
      going = ap job_in c.requires;
      left = ap (λ r. job_from 1 r (segments c.args.text.now)) c.requires;
    }

pub lines-preserved : goal.lines-preserved
lines-preserved c =
    let read = rw c.in-Ok-false.field-0-test at c.in-Ok-false.ensures in
    let going = goes_on c.line.new.self (sym read.last) in
    let few = c.lines.invariant.few in
    let cut = ap length c.in-Some.ensures.0 in
    let long = length-append c.in-Some.line.now (10 ∷ c.in-Some.behind.now) in
    record {
      few = omega (arith, few, cut, long);
      going = going;
      left =
          sym (read_line c.lines.number c.lines.reader c.line.new.self c.lines.rest.now c.in-Some.line.now
          c.in-Some.behind.now
          c.in-Some.ensures.1 (sym c.if-is_long.ensures) read.read going) ∙ c.lines.invariant.left;
    }

pub returns-in-Ok-true : goal.returns-in-Ok-true
returns-in-Ok-true c =
    let read = rw c.in-Ok-true.field-0-test at c.in-Ok-true.ensures in
    let ends = has_job c.line.new.self (sym read.last) in
    ends_all (job_of c.args.text.now) c.line.new.self ends.0 (c.lines.number + 1) (segments c.in-Some.behind.now)
    c.read_end.result
    (sym c.lines.invariant.left
    ∙ last_line c.lines.number c.lines.reader c.line.new.self ends.0 c.lines.rest.now c.in-Some.line.now
    c.in-Some.behind.now
    c.in-Some.ensures.1 (sym c.if-is_long.ensures) read.read ends.1)
    ends.1 c.read_end.ensures

pub returns-in-Err : goal.returns-in-Err
returns-in-Err c =
    bad_all (Unit {0}) (job_of c.args.text.now) c.line.new.self c.lines.number c.in-Err.error c.bad_line.result
    c.bad_line.ensures
    (λ why is. sym c.lines.invariant.left
    ∙ refused_line c.lines.number c.lines.reader c.lines.rest.now c.in-Some.line.now c.in-Some.behind.now why
    c.in-Some.ensures.1 (sym c.if-is_long.ensures)
    (subst (Refuses (reading_after c.lines.reader c.in-Some.line.now)) is c.in-Err.ensures.bad))
