use Rattle.std.proofs.Common.{◌∙◌, ap}
use Rattle.std.specs.Prelude.{replicate}
use Rattle.syncml_types.specs.Canonical.{canonical}
use Rattle.syncml_codec.specs.Decoding.{read_of}
use Rattle.dm_machine.specs.Events.{message as came}
use Rattle.dm_bench.specs.Running.{workload_run}
use Rattle.dm_bench.proofs.Delivering.{delivered_is}
use Rattle.dm_bench.proofs.running.deliver.Goals as goal

pub returns-clause-run : goal.returns-clause-run
returns-clause-run c =
    delivered_is c.args.nodes c.args.number (workload_run c.args.client.now.machine c.args.words.now c.args.tally) _ _ _ _
    (ap (λ bytes. came (read_of bytes) (replicate 16 0))
    (c.as_slice.ensures ∙ c.in_ok-bytes.ensures ∙ ap canonical c.in_ok-message.ensures.message))
    c.in_ok-answer.ensures.ok c.in_ok-message.ensures.rest
    (c.counted.ensures.counts _ c.in_ok-answer.ensures.answer)
