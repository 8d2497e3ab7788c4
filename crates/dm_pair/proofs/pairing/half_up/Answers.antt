use Rattle.std.proofs.Common.{refl}
use Rattle.dm_pair.specs.Seen.{seen}
use Rattle.dm_pair.proofs.Both.{up_half, no_half}
use Rattle.dm_pair.proofs.pairing.half_up.Goals as goal

pub returns-in_default-clause-round : goal.returns-in_default-clause-round
returns-in_default-clause-round c = no_half (seen c.args.pairing.now) c.in_default.ensures

pub returns-clause-round : goal.returns-clause-round
returns-clause-round c =
    up_half (seen c.args.pairing.now) c.in-Some.message.now _ _ _ c.in-Some.ensures (record {
      nonce = c.nonce_of-nonce.result.bytes;
      told = c.nonce_of-nonce.ensures;
      server = c.in_ok-deliver_up.ensures.server;
      downs_are = c.in_ok-deliver_up.ensures.downs;
      count = refl;
    })
