use Rattle.std.proofs.Common.{◌≡◌, ◌≤◌, ◌+◌, length}
use Rattle.dm_job.specs.Texts.{segments}
use Rattle.dm_ddf.specs.declared.reader.DdfProgress.TheVariants as progress
use Rattle.dm_ddf.specs.Texts.{ddf_from}
use Rattle.dm_ddf.proofs.lines.read_ddf.Given as goal

abbrev pub invariant-lines : goal.invariant-lines
invariant-lines l = record {
  few : l.number + length l.rest ≤ 1 + length l.fn.text;
  rest : ddf_from 1 progress.First (segments l.fn.text) ≡ ddf_from l.number l.progress (segments l.rest);
}

abbrev pub decreases-lines : goal.decreases-lines
decreases-lines l = length l.rest
