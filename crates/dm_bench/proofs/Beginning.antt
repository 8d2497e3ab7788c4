-- The client begins with what the lines told.
use Rattle.std.proofs.Common.{◌≡◌, ℕ, ap, ◌∙◌}
use Rattle.dm_machine.specs.declared.kinds.Initiator.TheVariants.{ByClient}
use Rattle.dm_machine.specs.Machine.{Machine}
use Rattle.dm_machine.specs.Events.{opened}
use Rattle.dm_machine.specs.History.{next}
use Rattle.dm_tree.specs.Rows.{IsNoneParked}
use Rattle.dm_start.specs.declared.telling.Start.{Start}
use Rattle.dm_start.specs.Start.{told_of}
use Rattle.dm_start.specs.Laws.{IsStart}
use Rattle.dm_replay.specs.Output.{client_of}
use Rattle.dm_replay.proofs.Beginning.{can_begin}
use Rattle.dm_bench.specs.Start.{start_of, begun_machine, MayBegin}

pub may_begin : (start : Start) → IsStart (told_of start) → IsNoneParked start.tree.rows → MayBegin start
may_begin start sound none = record { client = can_begin start sound none; some = sound.some }

pub begun_is : (nodes : ℕ) (start : Start) (old new : Machine) → told_of start ≡ start_of nodes
    → old ≡ client_of (told_of start) → new ≡ next old (opened 0 ByClient 1) → new ≡ begun_machine nodes
unfolding begun_machine
begun_is nodes start old new told is now =
    now ∙ ap (λ c. next c (opened 0 ByClient 1)) (is ∙ ap client_of told)
