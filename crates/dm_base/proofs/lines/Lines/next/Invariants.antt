use Rattle.std.proofs.Common.{◌≡◌, ℕ, ◌<◌, ◌≤◌, ◌-◌, get_or, length}
use Rattle.std.specs.Io.KnownBytes.{Keeps}
use Rattle.dm_base.specs.Lines.{ahead, CountsTaken, HasFeed, room}
use Rattle.dm_base.proofs.lines.Lines.next.Given as goal

abbrev pub invariant-pieces : goal.invariant-pieces
invariant-pieces g l = record {
  within : l.scanned ≤ length l.self.pending;
  clear : (k : ℕ) → k < l.scanned → get_or l.self.pending k 0 ≡ 10 → ⊥;
  kept : Keeps (ahead l.fn.self (g.S.Source.left l.fn.src)) (ahead l.self (g.S.Source.left l.src));
  taken : CountsTaken (g.S.Source.left l.fn.src) (g.S.Source.left l.src) l.fn.self.taken l.self.taken;
  room : room l.self ≡ room l.fn.self;
  count : g.S.Source.faults l.src ≡ g.S.Source.faults l.fn.src;
  unasked : HasFeed l.fn.self.pending → (l.self ≡ l.fn.self) × (l.src ≡ l.fn.src);
  sink : g.S.Source.as_sink l.src ≡ g.S.Source.as_sink l.fn.src;
}

abbrev pub decreases-pieces : goal.decreases-pieces
decreases-pieces g l = 67108865 - l.self.taken
