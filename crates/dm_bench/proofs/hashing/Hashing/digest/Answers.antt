use Rattle.std.proofs.Math.Logic.{∥∥₁_elim}
use Rattle.std.specs.Coded.{Coded-set, coded_list, coded_ℕ}
use Rattle.dm_bench.proofs.hashing.Hashing.digest.Goals as goal

pub returns : goal.returns
returns c = ∥∥₁_elim c.args.self.held (Coded-set (coded_list coded_ℕ) _ _) (λ h. c.finalize.ensures _ h)
