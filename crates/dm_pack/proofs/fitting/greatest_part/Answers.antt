use Rattle.std.proofs.Common.{arith}
use Rattle.dm_pack.proofs.Greatest.{from_below}
use Rattle.dm_pack.proofs.fitting.greatest_part.Goals as goal

pub loop-n-init : goal.loop-n-init
loop-n-init c = record {
  within = omega arith;
  rest = from_below c.args.value.now c.args.budget c.min-n.result (omega arith) (λ h. omega arith);
}
