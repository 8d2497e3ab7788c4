use Rattle.std.specs.Prelude.{◌≡◌, false}
use Rattle.dm_start.specs.Start.{section_at, is_begun}
use Rattle.session_tests.proofs.starts.start.Given as goal

abbrev pub invariant-loop-line : goal.invariant-loop-line
invariant-loop-line l = is_begun (section_at l.reader) ≡ false
