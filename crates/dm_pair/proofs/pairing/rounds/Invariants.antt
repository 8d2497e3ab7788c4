use Rattle.std.proofs.Common.{◌≡◌, ◌≤◌, ◌+◌, ◌*◌}
use Rattle.dm_pair.specs.Pairing.{rounds}
use Rattle.dm_pair.specs.Seen.{seen}
use Rattle.dm_pair.proofs.pairing.rounds.Given as goal

abbrev pub invariant-rounds : goal.invariant-rounds
invariant-rounds l = record {
  few : l.pairing.deliveries + 2 * l.left ≤ l.fn.pairing.deliveries + 2 * l.fn.count;
  rest : rounds l.fn.count (seen l.fn.pairing) ≡ rounds l.left (seen l.pairing);
}

abbrev pub decreases-rounds : goal.decreases-rounds
decreases-rounds l = l.left
