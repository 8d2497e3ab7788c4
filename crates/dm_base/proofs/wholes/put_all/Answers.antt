use Rattle.std.proofs.Common.{arith, ◌∙◌}
use Rattle.std.proofs.lemmas.List.{take_rest}
use Rattle.dm_base.proofs.Known.{puts_more}
use Rattle.dm_base.proofs.wholes.put_all.Goals as goal

pub loop-at-preserved : goal.loop-at-preserved
loop-at-preserved g c =
    let next = rw take_rest at c.in-Ok.ensures.bytes.2 in
    record {
      within = grind (arith);
      put = puts_more _ _ _ _ _ _ c.loop-at.invariant.put next;
      count = c.in-Ok.ensures.count ∙ c.loop-at.invariant.count;
      source = c.put.ensures.source ∙ c.loop-at.invariant.source;
    }
