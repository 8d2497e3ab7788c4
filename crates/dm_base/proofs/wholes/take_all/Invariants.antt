use Rattle.std.proofs.Common.{length, ◌-◌, ◌+◌, ◌≡◌, ◌≤◌}
use Rattle.std.specs.Io.KnownBytes.{Consumes}
use Rattle.dm_base.proofs.wholes.take_all.Given as goal

abbrev pub invariant-loop-buf : goal.invariant-loop-buf
invariant-loop-buf g l = record {
  within : length l.bytes ≤ l.limit + 1;
  taken : Consumes (g.S.Source.left l.fn.src) (g.S.Source.left l.src) l.bytes;
  count : g.S.Source.faults l.src ≡ g.S.Source.faults l.fn.src;
  sink : g.S.Source.as_sink l.src ≡ g.S.Source.as_sink l.fn.src;
}

abbrev pub decreases-loop-buf : goal.decreases-loop-buf
decreases-loop-buf g l = l.limit + 1 - length l.bytes
