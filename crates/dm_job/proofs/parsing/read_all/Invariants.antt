use Rattle.std.proofs.Common.{◌≡◌, ◌≤◌, ◌+◌, None, length}
use Rattle.dm_job.specs.Texts.{segments, job_in, job_from, job_of}
use Rattle.dm_job.proofs.parsing.read_all.Given as goal

-- what is left comes to what the whole does
abbrev pub invariant-lines : goal.invariant-lines
invariant-lines l = record {
  few : l.number + length l.rest ≤ 1 + length l.text;
  going : job_in l.reader ≡ None;
  left : job_from l.number l.reader (segments l.rest) ≡ job_of l.text;
}

abbrev pub decreases-lines : goal.decreases-lines
decreases-lines l = length l.rest
