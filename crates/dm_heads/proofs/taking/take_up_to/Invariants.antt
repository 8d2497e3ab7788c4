use Rattle.std.proofs.Common.{◌≡◌, ◌++◌, ◌-◌, List, ℕ, length}
use Rattle.std.specs.Io.KnownBytes.{Consumes}
use Rattle.dm_heads.proofs.Wanting.{UpToNow}
use Rattle.dm_heads.proofs.taking.take_up_to.Given as goal

abbrev pub invariant-pieces : goal.invariant-pieces
invariant-pieces g l = record {
  so_far : (piece : List ℕ) × Consumes (g.S.Source.left l.fn.src) (g.S.Source.left l.src) piece
      × (l.taken ≡ l.fn.taken ++ piece);
  asked : UpToNow (g.S.Source.left l.fn.src) (g.S.Source.left l.src) l.fn.taken l.taken l.end;
  count : g.S.Source.faults l.src ≡ g.S.Source.faults l.fn.src;
  sink : g.S.Source.as_sink l.src ≡ g.S.Source.as_sink l.fn.src;
}

abbrev pub decreases-pieces : goal.decreases-pieces
decreases-pieces g l = l.end - length l.taken
