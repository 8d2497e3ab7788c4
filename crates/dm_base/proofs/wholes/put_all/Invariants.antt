use Rattle.std.proofs.Common.{length, take, ◌-◌, ◌≡◌, ◌≤◌}
use Rattle.std.specs.Io.KnownBytes.{Appends}
use Rattle.dm_base.proofs.wholes.put_all.Given as goal

abbrev pub invariant-loop-at : goal.invariant-loop-at
invariant-loop-at g l = record {
  within : l.at ≤ length l.bytes;
  put : Appends (g.K.Sink.got l.fn.out) (g.K.Sink.got l.out) (take l.at l.bytes);
  count : g.K.Sink.faults l.out ≡ g.K.Sink.faults l.fn.out;
  source : g.K.Sink.as_source l.out ≡ g.K.Sink.as_source l.fn.out;
}

abbrev pub decreases-loop-at : goal.decreases-loop-at
decreases-loop-at g l = length l.bytes - l.at
