use Rattle.std.proofs.Common.{arith}
use Rattle.dm_bench.proofs.Delivering.{none_delivered, one_more, all_machine, all_tally}
use Rattle.dm_bench.proofs.running.deliver_all.Goals as goal

pub deliveries-init : goal.deliveries-init
deliveries-init c = record {
  ok = omega arith;
  failed = omega arith;
  run = none_delivered _ _ _ _ c.seed_from_u64-words.ensures.same;
}

pub deliveries-preserved : goal.deliveries-preserved
deliveries-preserved c =
    let ok = c.deliveries.invariant.ok in
    let failed = c.deliveries.invariant.failed in
    let more = c.in_ok-tally.ensures.ok in
    let fewer = c.in_ok-tally.ensures.failed in
    record {
      ok = omega (arith, ok, more);
      failed = omega (arith, failed, fewer);
      run = one_more _ _ _ _ c.deliveries.done c.deliveries.invariant.run c.in_ok-tally.ensures.run;
    }

pub returns-clause-machine : goal.returns-clause-machine
returns-clause-machine c =
    all_machine _ _ c.deliveries.done _ _ _ _ (omega arith) c.deliveries.invariant.run

pub returns-clause-tally : goal.returns-clause-tally
returns-clause-tally c =
    all_tally _ _ c.deliveries.done _ _ _ _ (omega arith) c.deliveries.invariant.run
