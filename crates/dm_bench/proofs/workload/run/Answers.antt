use Rattle.dm_bench.specs.Running.{first_run, with_messages}
use Rattle.dm_bench.proofs.Summing.{line_is}
use Rattle.dm_bench.proofs.workload.run.Goals as goal

pub returns : goal.returns
returns c =
    line_is c.args.messages
    (with_messages c.args.nodes (first_run c.args.client.now.machine c.args.seed) c.args.messages) _ _ _ _ _
    c.in_ok-tally.ensures.machine c.in_ok-tally.ensures.tally c.tree.ensures.nodes c.in_ok-digest.ensures
    c.in_ok-line.ensures
