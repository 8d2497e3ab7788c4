use Rattle.std.proofs.Common.{refl}
use Rattle.dm_pair.specs.Seen.{seen}
use Rattle.dm_pair.proofs.Both.{down_half}
use Rattle.dm_pair.proofs.pairing.half_down.Goals as goal

pub returns-clause-round : goal.returns-clause-round
returns-clause-round c =
    down_half (seen c.args.pairing.now) c.in-Some.message.now _ _ _ _ c.in-Some.ensures
    (record {
      nonce = c.nonce_of-nonce.result.bytes;
      told = c.nonce_of-nonce.ensures;
      client = c.in_ok-answer.ensures.client;
      ups_are = c.in_ok-answer.ensures.ups;
      count = refl;
    })
    (c.stop_word.ensures _ _ c.in_ok-answer.ensures.answer)
