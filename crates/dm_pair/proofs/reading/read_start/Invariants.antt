use Rattle.std.proofs.Common.{◌≡◌, ◌≤◌, ◌+◌, false, length}
use Rattle.dm_start.specs.declared.heads.Head.TheVariants.{Device}
use Rattle.dm_start.specs.Start.{opening, section_at, is_begun}
use Rattle.dm_pair.specs.Texts.{starting}
use Rattle.dm_pair.specs.From.{rest_written}
use Rattle.dm_pair.proofs.reading.read_start.Given as goal

abbrev pub invariant-lines : goal.invariant-lines
invariant-lines l = record {
  few : l.number + length l.rest ≤ 2 + length l.fn.text;
  open_ : is_begun (section_at l.reader) ≡ false;
  rest : rest_written 2 (starting (opening (Device 1))) l.fn.text
      ≡ rest_written l.number (starting (section_at l.reader)) l.rest;
}

abbrev pub decreases-lines : goal.decreases-lines
decreases-lines l = length l.rest
