use Rattle.std.proofs.Common.{arith, ◌∙◌, sym}
use Rattle.dm_base.proofs.Pending.{taken_more}
use Rattle.dm_start.specs.Start.{section_at, told_of}
use Rattle.dm_replay.proofs.Beginning.{can_begin}
use Rattle.dm_replay.proofs.Over.{section_goes, section_comes, section_fails, line_is_no_fault}
use Rattle.dm_replay.proofs.Sections.{section_more}
use Rattle.dm_replay.proofs.reading.read_start.Goals as goal

pub lines-preserved : goal.lines-preserved
lines-preserved g c =
    let few = c.lines.invariant.few in
    let room = c.in-Ok.ensures.room in
    let read = rw c.in-Ok-false.field-0-test at c.in-Ok-false.ensures in
    record {
      few = omega (arith, few, room);
      open_ = sym read.last;
      section = section_more _ _ _ c.lines.number (section_at c.lines.reader)
          (section_at c.line-in-lines.new.self) c.next_line.new.lines.line c.line.result.now
          c.line.ensures (read.read, read.last) c.lines.invariant.section c.in-Ok.ensures.line;
      over = section_goes c.args.lines.now c.lines.lines c.next_line.new.lines (g.S.Source.left c.args.src.now)
          (g.S.Source.left c.lines.src) (g.S.Source.left c.next_line.new.src) c.lines.number
          (section_at c.lines.reader) (section_at c.line-in-lines.new.self) c.next_line.new.lines.line c.line.result.now
          c.line.ensures (read.read, read.last) c.lines.invariant.over c.in-Ok.ensures.over;
      taken = taken_more _ _ _ _ c.lines.lines.taken _ c.lines.invariant.taken c.in-Ok.ensures.taken;
      count = c.in-Ok.ensures.count ∙ c.lines.invariant.count;
    }

pub returns-in-Err-clause-taken : goal.returns-in-Err-clause-taken
returns-in-Err-clause-taken g c =
    taken_more _ _ _ _ c.lines.lines.taken _ c.lines.invariant.taken c.in-Err.ensures.taken

pub returns-in-Ok-true-clause-taken : goal.returns-in-Ok-true-clause-taken
returns-in-Ok-true-clause-taken g c =
    taken_more _ _ _ _ c.lines.lines.taken _ c.lines.invariant.taken c.in-Ok.ensures.taken

pub returns-in-Err-line-clause-taken : goal.returns-in-Err-line-clause-taken
returns-in-Err-line-clause-taken g c =
    taken_more _ _ _ _ c.lines.lines.taken _ c.lines.invariant.taken c.in-Ok.ensures.taken

pub returns-in-Ok-true-clause-client : goal.returns-in-Ok-true-clause-client
returns-in-Ok-true-clause-client g c = can_begin c.finish.result c.finish.ensures.sound c.finish.ensures.parked

pub returns-in-Err-clause-over : goal.returns-in-Err-clause-over
returns-in-Err-clause-over g c =
    λ failed. section_fails c.args.lines.now c.lines.lines (g.S.Source.left c.args.src.now)
    (g.S.Source.left c.lines.src) (g.S.Source.left c.next_line.new.src) c.lines.number (section_at c.lines.reader)
    c.lines.invariant.over (c.in-Err.ensures.over failed)

pub returns-in-Ok-true-clause-over : goal.returns-in-Ok-true-clause-over
returns-in-Ok-true-clause-over g c =
    let read = rw c.in-Ok-true.field-0-test at c.in-Ok-true.ensures in
    section_comes c.args.lines.now c.lines.lines c.next_line.new.lines (g.S.Source.left c.args.src.now)
    (g.S.Source.left c.lines.src) (g.S.Source.left c.next_line.new.src) c.lines.number (section_at c.lines.reader)
    (section_at c.line-in-lines.new.self) (told_of c.finish.result) c.next_line.new.lines.line c.line.result.now
    c.line.ensures (read.read, read.last) c.finish.ensures.told c.lines.invariant.over c.in-Ok.ensures.over

pub returns-in-Err-line-clause-over : goal.returns-in-Err-line-clause-over
returns-in-Err-line-clause-over g c =
    λ failed. absurd (line_is_no_fault c.lines.number c.in-Err-line.error (sym c.halt_at.ensures ∙ failed))
