use Rattle.std.proofs.Common.{◌≡◌, ◌≤◌, ◌+◌, false, length}
use Rattle.dm_start.specs.Start.{Setup}
use Rattle.dm_job.specs.declared.draft.Reading.TheVariants as reading
use Rattle.dm_job.specs.Texts.{is_ended}
use Rattle.dm_pair.specs.Texts.{jobbing}
use Rattle.dm_pair.specs.From.{rest_written}
use Rattle.dm_pair.proofs.reading.read_job.Given as goal

abbrev pub invariant-lines : goal.invariant-lines
invariant-lines l = record {
  few : l.number + length l.rest ≤ l.fn.first + length l.fn.text;
  open_ : is_ended l.reader ≡ false;
  rest : (told : Setup) → rest_written l.fn.first (jobbing told reading.First) l.fn.text
      ≡ rest_written l.number (jobbing told l.reader) l.rest;
}

abbrev pub decreases-lines : goal.decreases-lines
decreases-lines l = length l.rest
