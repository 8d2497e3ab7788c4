use Rattle.std.proofs.Common.{◌≡◌, ◌≤◌, ◌-◌, length, take, nat_le}
use Rattle.syncml_parts.specs.Packing.{data_length}
use Rattle.dm_pack.specs.Filling.{greatest}
use Rattle.dm_pack.specs.Measures.{greatest_within}
use Rattle.dm_pack.proofs.fitting.greatest_part.Given as goal

abbrev pub invariant-loop-n : goal.invariant-loop-n
invariant-loop-n l = record {
  within : l.n ≤ length l.value - 1;
  rest : greatest (λ n. nat_le (data_length (take n l.value)) l.budget) l.n ≡ greatest_within l.value l.budget;
}

abbrev pub decreases-loop-n : goal.decreases-loop-n
decreases-loop-n l = l.n
