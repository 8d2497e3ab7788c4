use Rattle.std.proofs.Common.{◌≡◌, false}
use Rattle.dm_start.specs.Start.{section_at, is_begun}
use Rattle.start_tests.proofs.starts.reading.Given as goal

abbrev pub invariant-loop-line : goal.invariant-loop-line
invariant-loop-line l = is_begun (section_at l.reader) ≡ false
