use Rattle.dm_bench.proofs.Leading.{leads_more}
use Rattle.dm_bench.proofs.starting.take_leaves.Goals as goal

pub leaves-preserved : goal.leaves-preserved
leaves-preserved c = record {
  open_ = c.in_ok-take_leaf.ensures.open;
  led = leads_more c.leaves.leaf _ _ _ c.leaves.invariant.led c.in_ok-take_leaf.ensures.read;
}
