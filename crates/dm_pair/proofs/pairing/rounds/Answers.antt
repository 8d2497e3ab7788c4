use Rattle.std.proofs.Common.{◌∙◌, arith}
use Rattle.dm_pair.proofs.Both.{round_more}
use Rattle.dm_pair.proofs.pairing.rounds.Goals as goal

pub rounds-preserved : goal.rounds-preserved
rounds-preserved c =
    let turned = rw c.in-None.is at c.in_ok-word.ensures.round in
    let few = c.rounds.invariant.few in
    let more = c.in_ok-word.ensures.count in
    let some = c.rounds-test.true in
    record {
      few = omega (arith, few, more, some);
      rest = c.rounds.invariant.rest ∙ round_more c.rounds.left _ _ some turned;
    }
