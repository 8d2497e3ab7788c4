use Rattle.std.proofs.Common.{sym, subst}
use Rattle.std.proofs.Math.Logic.{∥∥₁_map}
use Rattle.md5.specs.Md5.{Holds}
use Rattle.dm_bench.proofs.hashing.HashingSink.put.Goals as goal

pub invariant_of-self : goal.invariant_of-self
invariant_of-self c = record {
  held = ∥∥₁_map c.args.self.now.held (λ h. subst (Holds c.update.new.self) (sym c.add.ensures) (c.update.ensures _ h));
}
