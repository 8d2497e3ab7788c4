use Rattle.std.proofs.Common.{◌≡◌, ◌≤◌, ◌-◌, length}
use Rattle.std.specs.Io.KnownBytes.{Consumes}
use Rattle.dm_heads.specs.Asking.{LastAsk}
use Rattle.dm_heads.proofs.receiving.take_head.Given as goal

abbrev pub invariant-pieces : goal.invariant-pieces
invariant-pieces g l = record {
  within : length l.taken ≤ 8192;
  so_far : Consumes (g.S.Source.left l.fn.src) (g.S.Source.left l.src) l.taken;
  asked : LastAsk l.kind l.taken;
  count : g.S.Source.faults l.src ≡ g.S.Source.faults l.fn.src;
  sink : g.S.Source.as_sink l.src ≡ g.S.Source.as_sink l.fn.src;
}

abbrev pub decreases-pieces : goal.decreases-pieces
decreases-pieces g l = 8192 - length l.taken
