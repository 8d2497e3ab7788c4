use Rattle.std.proofs.Common.{◌≡◌, ◌<◌, length}
use Rattle.dm_start.proofs.Putting.{IsFrontPut}
use Rattle.dm_start.proofs.pieces.put_value.Given as goal

abbrev pub invariant-loop-rest : goal.invariant-loop-rest
invariant-loop-rest g l = record {
  front : IsFrontPut (g.K.Sink.got l.fn.out) (g.K.Sink.got l.out) l.fn.text l.bytes l.rest l.text;
  few : length l.text < 65536;
  count : g.K.Sink.faults l.out ≡ g.K.Sink.faults l.fn.out;
  source : g.K.Sink.as_source l.out ≡ g.K.Sink.as_source l.fn.out;
}

abbrev pub decreases-loop-rest : goal.decreases-loop-rest
decreases-loop-rest g l = length l.rest
