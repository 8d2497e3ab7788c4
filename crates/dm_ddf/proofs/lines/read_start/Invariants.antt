use Rattle.std.proofs.Common.{◌≡◌, ◌≤◌, ◌+◌, false, length}
use Rattle.dm_job.specs.Texts.{segments}
use Rattle.dm_start.specs.declared.heads.Head.TheVariants as head
use Rattle.dm_start.specs.Start.{opening, section_at, is_begun}
use Rattle.dm_ddf.specs.Texts.{setup_lines_from}
use Rattle.dm_ddf.proofs.lines.read_start.Given as goal

abbrev pub invariant-lines : goal.invariant-lines
invariant-lines l = record {
  few : l.number + length l.rest ≤ l.fn.first + length l.fn.text;
  open_ : is_begun (section_at l.reader) ≡ false;
  rest : setup_lines_from l.fn.first (opening head.First) (segments l.fn.text)
      ≡ setup_lines_from l.number (section_at l.reader) (segments l.rest);
}

abbrev pub decreases-lines : goal.decreases-lines
decreases-lines l = length l.rest
