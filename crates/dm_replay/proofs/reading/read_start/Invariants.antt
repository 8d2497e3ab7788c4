use Rattle.std.proofs.Common.{◌≡◌, ◌≤◌, ◌+◌, false}
use Rattle.dm_base.specs.Lines.{room, CountsTaken}
use Rattle.dm_start.specs.declared.heads.Head.TheVariants.{First}
use Rattle.dm_start.specs.Start.{opening, section_at, is_begun}
use Rattle.dm_replay.specs.From.{input_to_come, Between, begun_at}
use Rattle.dm_replay.proofs.Over.{SectionOver}
use Rattle.dm_replay.proofs.reading.read_start.Given as goal

abbrev pub invariant-lines : goal.invariant-lines
invariant-lines g l = record {
  few : l.number + room l.lines ≤ 1 + room l.fn.lines;
  open_ : is_begun (section_at l.reader) ≡ false;
  section : Between (input_to_come l.fn.lines (g.S.Source.left l.fn.src)) (input_to_come l.lines (g.S.Source.left l.src))
      (λ i j. begun_at 1 (opening First) i ≡ begun_at l.number (section_at l.reader) j);
  over : SectionOver l.fn.lines l.lines (g.S.Source.left l.fn.src) (g.S.Source.left l.src) l.number
      (section_at l.reader);
  taken : CountsTaken (g.S.Source.left l.fn.src) (g.S.Source.left l.src) l.fn.lines.taken l.lines.taken;
  count : g.S.Source.faults l.src ≡ g.S.Source.faults l.fn.src;
}

abbrev pub decreases-lines : goal.decreases-lines
decreases-lines g l = room l.lines
