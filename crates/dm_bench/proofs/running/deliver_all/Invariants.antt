use Rattle.std.proofs.Common.{◌≡◌, ◌≤◌}
use Rattle.dm_bench.specs.Running.{workload_run, first_run, with_messages}
use Rattle.dm_bench.proofs.running.deliver_all.Given as goal

abbrev pub invariant-deliveries : goal.invariant-deliveries
invariant-deliveries l = record {
  ok : l.tally.ok ≤ l.done;
  failed : l.tally.failed ≤ l.done;
  run : workload_run l.client.machine l.words l.tally
      ≡ with_messages l.nodes (first_run l.fn.client.machine l.seed) l.done;
}
